use Rattle.std.proofs.Common.{◌≡◌, ◌-◌, ◌<◌, List, [], ◌∷◌, ◌++◌, length, get_or, take, ap, subst, ◌∙◌, arith}
use Rattle.std.specs.Str.{chars}
use Rattle.filterset_glob.specs.declared.token.GlobToken.{GlobToken, Literal}
use Rattle.filterset_glob.specs.{Matching.Matches, Tokens.tokens_of}
use Rattle.filterset_glob.proofs.{Endings.ends_in_byte, Items.last_of}
use Rattle.filterset_glob.proofs.matcher.rejects_end.Goals as goal

pub returns-in-Some-Literal : goal.returns-in-Some-Literal
returns-in-Some-Literal c other m =
    let tokens = c.args.tokens.now in let x = c.in-Some-Literal.field-0.now in let own = c.in-Some-Literal.own in
    let item = c.in-Some-Literal.ensures.item in
    let some : 0 < length tokens = item.3.0 in
    let last : x ≡ get_or tokens (length tokens - 1) x = item.1 in
    let whole : tokens ≡ take (length tokens - 1) tokens ++ Literal own ∷ [] = last_of tokens (length tokens - 1) x (omega (arith, some)) last ∙ ap (λ (y : GlobToken). take (length tokens - 1) tokens ++ y ∷ []) c.in-Some-Literal.field-0-is in
    let told = rw c.in-Some-Literal.own-is at c.ends_otherwise.ensures in
    let (front, is) = ends_in_byte (take (length tokens - 1) tokens) own c.args.s.now c.utf8.s (told.ascii other) (subst (λ (ts : List GlobToken). Matches (tokens_of ts) (chars c.args.s.now)) whole m) in
    told.otherwise other front (c.as_bytes.ensures.value ∙ is)
