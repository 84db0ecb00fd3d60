use Rattle.std.proofs.Common.{rules, ◌≡◌, ◌∙◌, List, ap, inr, string_bytes, subst, sym}
use Rattle.std.proofs.lemmas.Result.{IfErr-weaker, IfOk-weaker}
use Rattle.std.specs.{Borrow.Bor, Prelude.None, Prelude.Option, Prelude.Some, Prelude.is_some}
use Rattle.toml.specs.View.{view}
use Rattle.filterset_display.specs.{Columns.Text, declared.source.Source.Source}
use Rattle.filterset_configuration.specs.declared.place.Place.{Place}
use Rattle.filterset_sources.specs.{Configurations.IsFile, declared.configuration.Configuration.Configuration}
use Rattle.nextest_filtering.specs.Compiling.{packages_of}
use Rattle.filterset_asking.specs.Checking.{IsCheckFault, IsUnchecked, KnownConfiguration}
use Rattle.filterset_loading.proofs.FaultLemmas.{OrMemory-weaker}
use Rattle.filterset_asking.proofs.checking.check_texts.Goals as goal

-- what is known as a configuration is one
known_is : (content : Text → Option Text) (path : Option (Bor Text)) (bytes : Text) (c : Configuration) (places : List (Option Place))
    → KnownConfiguration content path bytes c places → IsFile bytes (view c.file)
known_is content None bytes c places is = is.1.0
known_is content (Some p) bytes c places is = is.1.0

abbrev origin_of : Source → Text
origin_of s = s.origin.now

abbrev text_of : Source → Text
text_of s = s.text.now

pub invariant_of-configured : goal.invariant_of-configured
invariant_of-configured g c =
    let file = c.in_ok-text.field-0 in
    let bytes = ap text_of c.configured_texts-texts.ensures.file ∙ c.in_ok-source.ensures.text ∙ c.as_str.ensures.value in
    let known = known_is _ c.args.paths.now.configuration (string_bytes file.text) file.configuration file.places.places.items c.in_ok-text.ensures.known in
    record { is_file = subst (λ t. IsFile t (view file.configuration.file)) (sym bytes) known }

pub returns-clause-answered : goal.returns-clause-answered
returns-clause-answered g c =
    let file = c.in_ok-text.field-0 in
    let texts = c.configured_texts-texts.result in
    let parts = c.configured_texts-texts.ensures in
    let packages : c.is_some-has_packages.result ≡ is_some c.args.paths.now.metadata = search rules in
    let groups : c.is_some-has_groups.result ≡ is_some c.args.paths.now.configuration = search rules in
    let names = rw (packages, groups) at c.in_ok-names.ensures.names in
    IfOk-weaker c.check_all.result _ _ (λ answer checked. (
      c.in_ok-graph.graph,
      string_bytes file.text,
      file.configuration,
      file.places,
      texts,
      c.in_ok-names.names,
      c.in_ok-graph.ensures.known,
      c.in_ok-text.ensures.known,
      (
        ap origin_of parts.file ∙ c.in_ok-source.ensures.origin ∙ c.file_name.ensures,
        ap text_of parts.file ∙ c.in_ok-source.ensures.text ∙ c.as_str.ensures.value,
        parts.filtersets ∙ c.as_slice.ensures.value,
        parts.places,
      ),
      names,
      checked,
    )) c.check_all.ensures.answered

pub returns-clause-refused : goal.returns-clause-refused
returns-clause-refused g c =
    let content = g.F.FileSource.content c.args.files.now in
    let fails = g.F.FileSource.fails c.args.files.now in
    let paths = c.args.paths.now in
    let file = c.in_ok-text.field-0 in
    let graph = c.in_ok-graph.graph in
    let names = c.in_ok-names in
    let bytes = ap text_of c.configured_texts-texts.ensures.file ∙ c.in_ok-source.ensures.text ∙ c.as_str.ensures.value in
    IfErr-weaker c.check_all.result _ _ (OrMemory-weaker (IsUnchecked content fails (packages_of names.names.parse_context) paths c.configured_texts-texts.result.file.now.text.now)
    (IsCheckFault content fails paths)
    (λ fault wrong. inr (inr (
      graph,
      string_bytes file.text,
      file.configuration,
      file.places,
      c.in_ok-graph.ensures.known,
      c.in_ok-text.ensures.known,
      rw (bytes, names.ensures.names.0) at wrong,
    )))) c.check_all.ensures.refused
