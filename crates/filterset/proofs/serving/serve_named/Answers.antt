use Rattle.std.proofs.Common.{Err, None, Option, ap, ◌∙◌}
use Rattle.std.specs.Prelude.{option_map, string_bytes}
use Rattle.std.proofs.lemmas.Result.{IfErr-weaker, IfOk-weaker, err_from_is_err_and}
use Rattle.serde_json.specs.View.{view}
use Rattle.filterset_loading.specs.declared.fault.CommandFault.TheVariants.{Run}
use Rattle.filterset_offers.specs.Workspaces.{WorkspaceRow}
use Rattle.filterset.specs.Responses.{says}
use Rattle.filterset.specs.Serving.{row_of}
use Rattle.filterset.proofs.ServingLemmas.{Served-whole, service_fault, stream_fault}
use Rattle.filterset.proofs.serving.serve_named.Goals as goal

pub returns-clause-session : goal.returns-clause-session
returns-clause-session g c =
    let opening = c.in_ok-opening.opening in
    let greeting = c.in_ok-greeting.greeting in
    let known : Option WorkspaceRow = option_map row_of greeting.workspace in
    let left = g.R.Source.left c.read_opening.new.input in
    let taken = g.W.Sink.taken c.write_all.new.output in
    let session = rw (c.known-workspace.ensures, c.deref.ensures.value) at c.serve_with.ensures.session in
    IfOk-weaker c.serve_with.result _ _
    (λ ending served. (
      opening.read.items,
      left,
      option_map view opening.options,
      c.in_ok-opening.ensures.opening,
      (
        known,
        string_bytes greeting.shown,
        taken,
        c.in_ok-greeting.ensures.greeted,
        rw c.as_bytes.ensures.value at c.in_ok-write_all.ensures.whole,
        Served-whole (says known) (g.R.Source.left c.args.input.now) left (g.R.Source.left c.serve_with.new.input) taken
            (g.W.Sink.taken c.serve_with.new.output) opening.read.items ending c.in_ok-opening.ensures.opening.0 served,
      ),
    ))
    session

pub returns-in_err-opening-clause-refused : goal.returns-in_err-opening-clause-refused
returns-in_err-opening-clause-refused g c =
    let unread = g.R.Source.failed c.read_opening.new.input in
    let unwritten = g.W.Sink.failed c.args.output.now in
    let error = err_from_is_err_and c.from_residual.result c.from_residual.ensures.1 in
    rw (error.1, error.2) (service_fault (g.F.FileSource.content c.args.files.now) (g.F.FileSource.fails c.args.files.now) None unread unwritten (Run c.in_err-opening.field-0.0)
    (stream_fault unread unwritten c.in_err-opening.field-0.0
    (λ e. c.read_opening.ensures.read_failed (c.in_err-opening.was ∙ ap Err e))
    (λ e. absurd (c.read_opening.ensures.no_write (c.in_err-opening.was ∙ ap Err e)))))

pub returns-in_err-write_all-clause-refused : goal.returns-in_err-write_all-clause-refused
returns-in_err-write_all-clause-refused g c =
    let unread = g.R.Source.failed c.read_opening.new.input in
    let unwritten = g.W.Sink.failed c.write_all.new.output in
    let error = err_from_is_err_and c.from_residual-in_err-write_all.result c.from_residual-in_err-write_all.ensures.1 in
    let only = c.in_err-write_all.ensures.only in
    rw (error.1, error.2) (service_fault (g.F.FileSource.content c.args.files.now) (g.F.FileSource.fails c.args.files.now) None unread unwritten (Run c.in_err-write_all.field-0.0)
    (stream_fault unread unwritten c.in_err-write_all.field-0.0
    (λ e. absurd (cc)) (λ e. c.in_err-write_all.ensures.failed)))

pub returns-clause-refused : goal.returns-clause-refused
returns-clause-refused g c =
    IfErr-weaker c.serve_with.result _ _
    (service_fault (g.F.FileSource.content c.args.files.now) (g.F.FileSource.fails c.args.files.now) None
    (g.R.Source.failed c.serve_with.new.input) (g.W.Sink.failed c.serve_with.new.output))
    c.serve_with.ensures.refused
