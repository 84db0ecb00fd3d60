use Rattle.std.proofs.Common.{◌≡◌, ◌<◌, ◌++◌, ◌∷◌, ◌≢◌, ℕ, zero, suc, [], Bor, List, ap, append_assoc, arith, codes, length, map, refl, rules, string_bytes, subst, sym, take, ◌∙◌}
use Rattle.std.specs.{Prelude.decimal, List.flat_map}
use Rattle.std.proofs.lemmas.List.{append-nil, flat_map_more, map_more}
use Rattle.filterset_display.specs.Positions.{Text}
use Rattle.filterset_offers.specs.Matches.{more_line, name_line}
use Rattle.filterset_offers.proofs.matches.shortlist_text.Goals as goal

abbrev now_of : Bor Text → Text
now_of n = n.now

-- one line more
more : (front : Text) (names : List Text) (name old new : Text) → old ≡ front ++ flat_map name_line names → new ≡ old ++ name_line name
    → new ≡ front ++ flat_map name_line (names ++ name ∷ [])
more front names name old new before added =
    added ∙ ap (λ (t : Text). t ++ name_line name) before ∙ flat_map_more name_line front names name

-- the text of its parts
whole : (a b c d e front lines rest made : Text) → front ≡ a ++ (b ++ (c ++ (d ++ e))) → made ≡ (front ++ lines) ++ rest
    → made ≡ a ++ (b ++ (c ++ (d ++ (e ++ (lines ++ rest)))))
whole a b c d e front lines rest made front_is is =
    is ∙ append_assoc front lines rest ∙ ap (λ (t : Text). t ++ (lines ++ rest)) front_is ∙ simp append_assoc refl

-- how many names are not listed
others_line : (n : ℕ) → n ≢ 0 → more_line n ≡ codes "\n- and " ++ (decimal n ++ codes " more")
others_line zero some = absurd (some refl)
others_line (suc n) some = refl

pub loop-name-init : goal.loop-name-init
loop-name-init c = sym (append-nil (string_bytes c.in_ok-text.text))

pub loop-name-preserved : goal.loop-name-preserved
loop-name-preserved c =
    let names = c.as_slice-names.result.now in
    let i = c.loop-name.name-index in
    let front = string_bytes c.in_ok-text.text in
    let lt : i < length names = omega (arith, c.loop-name-test.true) in
    let written : string_bytes c.write.new.self ≡ string_bytes c.loop-name.text ++ (codes "\n- " ++ string_bytes c.in_ok-code.code) = search rules in
    let P : List Text → Type 0 = λ ns. string_bytes c.write.new.self ≡ front ++ flat_map name_line ns in
    subst P (sym (map_more now_of names i _ lt))
    (more front (map now_of (take i names)) _ _ _ c.loop-name.invariant
    (written ∙ ap (λ (t : Text). string_bytes c.loop-name.text ++ (codes "\n- " ++ t)) c.in_ok-code.ensures))
