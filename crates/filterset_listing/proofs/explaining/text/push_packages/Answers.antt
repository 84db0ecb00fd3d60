use Rattle.std.proofs.Common.{rules, ◌≡◌, ◌∙◌, ◌++◌, ap, append_assoc, codes, string_bytes}
use Rattle.std.specs.List.{join_by}
use Rattle.filterset_graph.specs.Packages.{Text}
use Rattle.filterset_listing.specs.ListText.{some_text}
use Rattle.filterset_listing.proofs.explaining.text.push_packages.Goals as goal

-- the names are written, and what follows them
written : (start a b c d one two all : Text) → one ≡ start ++ (a ++ b) → two ≡ one ++ c → all ≡ two ++ d → all ≡ start ++ (a ++ (b ++ (c ++ d)))
written start a b c d one two all e f g = g ∙ ap (λ t. t ++ d) (f ∙ ap (λ t. t ++ c) e) ∙ simp append_assoc

pub returns-in_ok-push_str : goal.returns-in_ok-push_str
returns-in_ok-push_str c =
    let names : string_bytes c.in_ok-names.names ≡ join_by (λ n. n.now) (codes ", ") c.in-Some.packages.names.items = search (rules, c.in_ok-names.ensures.ok, c.deref.ensures.value) in
    let one = rw names at c.in_ok-write.ensures.bytes in
    let packages = c.in-Some.packages in
    rw c.in-Some.is (written _ (codes " (packages: ") (join_by (λ n. n.now) (codes ", ") packages.names.items) (some_text (codes " and ") packages.others (codes " more")) (codes ")") _ _ _ one c.in_ok-push_some.ensures c.in_ok-push_str.ensures.bytes)
