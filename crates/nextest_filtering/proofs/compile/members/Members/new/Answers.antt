use Rattle.std.proofs.Common.{◌≡◌, ◌+◌, ◌∷◌, ◌++◌, [], ◌∙◌, ap, sym, length, string_bytes, take, arith}
use Rattle.nextest_filtering.specs.{Hits.IsAt, Joined.ends_of, Joined.joined, Joined.offset}
use Rattle.nextest_filtering.proofs.NameHits.{ends_more, first_more}
use Rattle.nextest_filtering.proofs.compile.members.Members.new.Goals as goal

pub loop-package-preserved : goal.loop-package-preserved
loop-package-preserved c =
    let before = c.loop-package.invariant in
    let packages = c.deref-package-items.result.now in
    let i = c.loop-package.package-index in
    let at : IsAt packages i c.package-item.result = (c.loop-package-test.true, sym c.package-item.is) in
    let named : string_bytes c.push_str.new.self ≡ joined (take (i + 1) packages) =
    c.in_ok-push_str.ensures.bytes ∙ ap (λ xs. xs ++ c.name.result.now) before.named ∙ ap (λ xs. joined (take i packages) ++ xs) c.name.ensures ∙ sym (first_more packages i c.package-item.result at) in
    let end : c.len-in-loop-package.result ≡ offset packages (i + 1) = omega (arith, c.len-in-loop-package.ensures, c.push_str.new.self.bytes.ok.0, ap length named) in
    record {
      named = named;
      ended = c.in_ok-push.ensures.items ∙ ap (λ xs. xs ++ c.len-in-loop-package.result ∷ []) before.ended ∙ ap (λ n. ends_of packages i ++ n ∷ []) end ∙ sym (ends_more packages i);
    }
