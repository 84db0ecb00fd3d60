use Rattle.std.proofs.Common.{ℕ, zero, suc, ◌+◌, ◌++◌, ◌==◌, ◌≡◌, ◌∙◌, List, [], ◌∷◌, ap, arith, false, inl, length, map, string_bytes}
use Rattle.std.proofs.lemmas.{List.map-append, Result.err_from_is_err_and}
use Rattle.std.specs.Prelude.{IsSomeAnd, Option, if◌then◌else◌}
use Rattle.filterset_configuration.specs.declared.wrong.WrongValue.{WrongValue}
use Rattle.filterset_entries.specs.{Checked.text_row, Endings.ending_of, declared.text.Ending.TheVariants.Faulty}
use Rattle.nextest_filtering.specs.Compiling.{packages_of}
use Rattle.filterset_asking.specs.{Checking.IsUnchecked, Warned.IsListedFault, Warned.request_after}
use Rattle.filterset_loading.specs.declared.{fault.CommandFault.CommandFault, request.WarningRequest.WarningRequest}
use Rattle.filterset_loading.proofs.FaultLemmas.{OrMemory-weaker}
use Rattle.filterset_asking.proofs.checking.check_all.Goals as goal

-- what is requested after values is requested
requested : (P : WarningRequest → Type 0) (values : List WrongValue) (request : Option WarningRequest) → IsSomeAnd (request_after values request) P → IsSomeAnd request P
requested P [] request is = is
requested P (value ∷ values) request is = absurd is

not_none : (n : ℕ) → (suc n == 0) ≡ false
not_none n = grind arith

-- wrong values end as faults do
either : (n faulty : ℕ) → (if n == 0 then ending_of faulty else Faulty) ≡ ending_of (n + faulty)
either zero faulty =
    let e : faulty ≡ zero + faulty = omega arith in
    ap ending_of e
either (suc n) faulty =
    let e : suc (n + faulty) ≡ suc n + faulty = omega arith in
    ap (λ b. if b then ending_of faulty else Faulty) (not_none n) ∙ ap ending_of e

pub returns-clause-answered : goal.returns-clause-answered
returns-clause-answered g c =
    let values = c.in_ok-values.values.items in
    let own = map text_row c.args.given.entries.items in
    let rows = ap (λ entries. map text_row entries) c.in_ok-append.ensures.items
    ∙ map-append text_row c.in_ok-entries.entries.items c.args.given.entries.items ∙ ap (λ rows. rows ++ own) c.in_ok-entries.ensures in
    let answers = rw (c.as_slice.ensures.value, rows) at c.in_ok-checked.ensures in
    let added = rw c.as_slice-values.ensures.value at c.in_ok-answer.ensures.text in
    let ends = rw c.as_slice-values.ensures.value at c.in_ok-answer.ensures.ending in
    let warned = rw (c.as_slice.ensures.value, rows, c.request_after-request.ensures, c.as_slice-values.ensures.value, c.graph.ensures) at c.in_ok-warnings.ensures.answered in (
      values,
      c.in_ok-own.own.count,
      c.in_ok-answer.answer.ending,
      c.in_ok-warnings.warnings.ending,
      string_bytes c.in_ok-answer.answer.text,
      string_bytes c.in_ok-own.own.text,
      string_bytes c.in_ok-warnings.warnings.text,
      c.in_ok-values.ensures,
      (
        answers.0,
        added.0,
        string_bytes c.in_ok-checked.checked.text,
        added.1,
        answers.1,
        added.2,
        ends ∙ ap (λ e. if length values == 0 then e else Faulty) answers.2 ∙ either (length values) answers.0,
      ),
      c.in_ok-own.ensures,
      warned,
      rw c.as_slice-values.ensures.value at c.in_ok-find_asked.ensures.found,
      rw c.as_str.ensures.value at c.in_ok-join_answers.ensures.text,
      c.in_ok-join_answers.ensures.ending,
    )

pub returns-in_err-warnings-clause-refused : goal.returns-in_err-warnings-clause-refused
returns-in_err-warnings-clause-refused g c =
    let content = g.F.FileSource.content c.args.files.now in
    let fails = g.F.FileSource.fails c.args.files.now in
    let paths = c.args.paths in
    let bytes = c.args.configured.texts.file.now.text.now in
    let packages = packages_of c.args.names.now.parse_context in
    let Listed : CommandFault → WarningRequest → Type 0 = λ fault request. IsListedFault content fails packages paths.configuration bytes request fault in
    let asked = c.request_after-request.ensures in
    let error = err_from_is_err_and c.from_residual-in_err-warnings.result c.from_residual-in_err-warnings.ensures.1 in
    rw (error.1, error.2) (OrMemory-weaker (λ (fault : CommandFault). IsSomeAnd c.request_after-request.result (λ request. IsListedFault content fails c.graph.result.now paths.configuration bytes request fault))
    (IsUnchecked content fails packages paths bytes)
    (λ fault wrong. inl (requested (Listed fault) c.as_slice-values.result.now paths.warnings (rw (asked, c.graph.ensures) at wrong))) c.in_err-warnings.field-0.0 c.in_err-warnings.ensures.refused)
