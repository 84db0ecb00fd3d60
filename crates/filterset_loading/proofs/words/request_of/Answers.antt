use Rattle.std.proofs.Common.{◌≡◌, ◌∙◌, Some, inl, inr, subst, sym}
use Rattle.std.proofs.lemmas.Result.{IfErr-weaker, IfOk-weaker}
use Rattle.clap.specs.Words.{found_of, subcommand_name_of}
use Rattle.clap.specs.declared.parser.matches.{ArgMatches.ArgMatches, Found.Found}
use Rattle.filterset_display.specs.Columns.{Text}
use Rattle.filterset_loading.specs.Words.{IsAsked, IsAskedBy, IsUnasked}
use Rattle.filterset_loading.specs.declared.fault.CommandFault.{CommandFault, TheVariants.Missing}
use Rattle.filterset_loading.specs.declared.request.Request.{Request}
use Rattle.filterset_loading.proofs.words.request_of.Goals as goal

pub returns-in-Some-clause-asked : goal.returns-in-Some-clause-asked
returns-in-Some-clause-asked c = IfOk-weaker c.request_named.result _ _
    (λ request asked. (c.in-Some.name.now, found_of c.in-Some.own.now, (sym c.in-Some.ensures.name, sym c.in-Some.ensures.rows), asked)) c.request_named.ensures.asked

-- the words ask for no request that a command of their name is asked for
unasked : (matches : ArgMatches) (name : Text) (fault : CommandFault) → Some name ≡ subcommand_name_of matches
    → IsUnasked (λ request. (found : Found) × IsAskedBy name found request) fault → IsUnasked (IsAsked matches) fault
unasked matches name (Missing id) is none = λ request asked.
    let (other, found, gives, by) = asked in
    let both : Some name ≡ Some other = is ∙ gives.0 in
    let same : other ≡ name = cc in
    none request (found, subst (λ n. IsAskedBy n found request) same by)
unasked matches name _ is none = absurd none

pub returns-in-Some-clause-refused : goal.returns-in-Some-clause-refused
returns-in-Some-clause-refused c = IfErr-weaker c.request_named.result _ _
    (λ fault is. elim is [
      | inl given ↦ inl (c.in-Some.name.now, found_of c.in-Some.own.now, (sym c.in-Some.ensures.name, sym c.in-Some.ensures.rows), given)
      | inr none ↦ inr (unasked c.args.matches.now c.in-Some.name.now fault c.in-Some.ensures.name none)
    ]) c.request_named.ensures.refused
