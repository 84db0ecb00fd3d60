-- A tree has one value for a subject.
use Rattle.std.proofs.Common.{◌≡◌, ◌↔◌, Bool, true, false, List, refl, sym, ◌∙◌, ap, subst, Option, Some, None}
use Rattle.std.specs.Bool.{IsTrue, one_answer}
use Rattle.std.proofs.lemmas.Bool.{false≢true}
use Rattle.filterset_expression.specs.declared.expression.CompiledExpr.{CompiledExpr}
use Rattle.filterset_faults.specs.declared.span.SourceSpan.{SourceSpan}
use Rattle.filterset_grammar.specs.Tree.{Tree}
use Rattle.filterset_graph.specs.declared.package.PackageMetadata.{PackageMetadata}
use Rattle.filterset_listing.specs.{Asking.Text, Values.HasValueIn, declared.explaining.candidate.Candidate.Candidate}
use Rattle.filterset_listing.specs.declared.explaining.candidate.Candidate.TheVariants.{Binary, Test}
use Rattle.filterset_listing.specs.SubjectValues.{Basis, HasValue, may_be, MaySay}
use Rattle.filterset_listing.specs.declared.subjects.Subject.{Subject}

module _ (group : Text) (packages : List PackageMetadata) (default : CompiledExpr) (e : Tree SourceSpan) where
  one_value_in : (candidate : Candidate) (x y : Option Bool) → HasValueIn group candidate packages default e x
      → HasValueIn group candidate packages default e y → x ≡ y
  one_value_in (Binary query) (Some a) (Some b) v w = ap Some ((w a).0 ((v a).1 refl))
  one_value_in (Binary query) (Some a) None v w = absurd (false≢true ((v false).0 w.1 ∙ sym ((v true).0 w.0)))
  one_value_in (Binary query) None (Some b) v w = absurd (false≢true ((w false).0 v.1 ∙ sym ((w true).0 v.0)))
  one_value_in (Binary query) None None v w = refl
  one_value_in (Test query) (Some a) (Some b) v w = ap Some (one_answer a b v w)
  one_value_in (Test query) (Some a) None v w = absurd w
  one_value_in (Test query) None y v w = absurd v

pub one_value : (basis : Basis) (subject : Subject) (e : Tree SourceSpan) (x y : Option Bool) → HasValue basis subject e x → HasValue basis subject e y → x ≡ y
one_value basis subject e x y v w = one_value_in subject.group.now basis.packages basis.default e subject.candidate x y v w

-- so it tells what the tree may say
pub may_say : (basis : Basis) (subject : Subject) (e : Tree SourceSpan) (x : Option Bool) (value : Bool) → HasValue basis subject e x → (IsTrue (may_be x value) ↔ MaySay basis subject e value)
may_say basis subject e x value has = (
  λ yes. (x, has, yes),
  λ says. subst (λ z. IsTrue (may_be z value)) (one_value basis subject e says.0 x says.1 has) says.2,
)
