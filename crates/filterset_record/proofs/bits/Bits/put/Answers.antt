use Rattle.std.proofs.Common.{◌≡◌, ◌<◌, ◌/◌, ◌%◌, ◌*◌, ◌^◌, length, slice_index, slice_set, bit_or, arith, ◌∙◌, ◌==◌, ◌||◌, ap, sym}
use Rattle.std.proofs.{Math.Bool.and-true, lemmas.List.get_or_read, lemmas.Nat.one_shl}
use Rattle.filterset_record.specs.Bits.{bit_of}
use Rattle.filterset_record.proofs.BitLemmas.{set_bit}
use Rattle.filterset_record.proofs.bits.Bits.put.Goals as goal

pub returns-then-answer-clause-put : goal.returns-then-answer-clause-put
returns-then-answer-clause-put c = λ i.
    let words = c.args.self.now.words.items in
    let p = c.args.position in
    let within : p / 64 < length words = omega (arith, c.requires, c.args.self.now.words.ok.0) in
    let shifted : (1 * 2 ^ (p % 64)) % 18446744073709551616 ≡ 2 ^ (p % 64) = one_shl (p % 64) 64 (omega arith) in
    let read : c.index_mut.result.now ≡ slice_index words (p / 64) = get_or_read words (p / 64) c.index_mut.result.now within c.index_mut.ensures.value 0 in
    ap (λ n. bit_of (slice_set words (p / 64) (bit_or n ((1 * 2 ^ (p % 64)) % 18446744073709551616))) i) read
    ∙ ap (λ n. bit_of (slice_set words (p / 64) (bit_or (slice_index words (p / 64)) n)) i) shifted
    ∙ set_bit words p i within
    ∙ ap (λ b. b || bit_of words i) (sym (rw c.if-answer.true (and-true (i == p))))
