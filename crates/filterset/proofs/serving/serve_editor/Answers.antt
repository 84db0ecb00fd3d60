use Rattle.std.proofs.{Common.[], Common.Some, KnownBytes.Consumes-nil}
use Rattle.std.proofs.lemmas.Result.{IfErr-weaker, IfOk-weaker}
use Rattle.filterset_offers.specs.Workspaces.{known_of}
use Rattle.filterset.specs.Responses.{says}
use Rattle.filterset.proofs.ServingLemmas.{Served-whole, service_fault}
use Rattle.filterset.proofs.serving.serve_editor.Goals as goal

pub returns-in_ok-read_workspace-in-Some-clause-session : goal.returns-in_ok-read_workspace-in-Some-clause-session
returns-in_ok-read_workspace-in-Some-clause-session g c =
    let known = known_of c.known.result in
    let left = g.R.Source.left c.args.input.now in
    IfOk-weaker c.serve_with.result _ _
    (λ ending served. rw c.in-Some.is (
      known,
      (c.in_ok-read_workspace-in-Some.field-0, c.in_ok-read_workspace-in-Some.ensures.read, c.known.ensures),
      Served-whole (says known) left left (g.R.Source.left c.serve_with.new.input)
          (g.W.Sink.taken c.args.output.now) (g.W.Sink.taken c.serve_with.new.output) [] ending (Consumes-nil left) served,
    ))
    c.serve_with.ensures.session

pub returns-in_ok-read_workspace-in-Some-clause-refused : goal.returns-in_ok-read_workspace-in-Some-clause-refused
returns-in_ok-read_workspace-in-Some-clause-refused g c =
    IfErr-weaker c.serve_with.result _ _
    (λ fault told. rw c.in-Some.is (service_fault (g.F.FileSource.content c.args.files.now) (g.F.FileSource.fails c.args.files.now) (Some c.in-Some.paths)
    (g.R.Source.failed c.serve_with.new.input) (g.W.Sink.failed c.serve_with.new.output) fault told))
    c.serve_with.ensures.refused
