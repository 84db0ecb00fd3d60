use Rattle.std.proofs.{Common.◌∙◌, Common.ap, Common.sym, lemmas.Slice.Eq.bytes_eq-Decides}
use Rattle.filterset_glob.specs.Glob.{Glob}
use Rattle.filterset_matchers.proofs.Literals.{one_glob}
use Rattle.filterset_matchers.proofs.matcher.glob.GlobMatcher.is_of.Goals as goal

pub returns : goal.returns
returns c = (
  λ same.
      let texts = (bytes_eq-Decides c.as_str.result.now c.as_str-2.result.now).0 (sym c.eq.ensures ∙ same) in
      sym c.self.view_is ∙ one_glob c.self.inside.glob.now c.args.glob.now (rw (← c.as_str.ensures.text) c.as_str.ensures.read) (rw (← c.as_str-2.ensures.text) c.as_str-2.ensures.read) (sym c.as_str.ensures.text ∙ texts ∙ c.as_str-2.ensures.text),
  λ is.
      let texts = c.as_str.ensures.text ∙ ap (λ (g : Glob). g.text) (c.self.view_is ∙ is) ∙ sym c.as_str-2.ensures.text in
      c.eq.ensures ∙ (bytes_eq-Decides c.as_str.result.now c.as_str-2.result.now).1 texts,
)
