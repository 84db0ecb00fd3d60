use Rattle.std.proofs.{Common.arith, Common.ap, Common.◌∙◌, lemmas.List.get_or_default}
use Rattle.filterset_configuration.specs.PlatformGrammar.{is_triple_byte}
use Rattle.filterset_configuration.proofs.PlatformFaults.{triple_fault}
use Rattle.filterset_configuration.proofs.platforms.specification.read_triple.Goals as goal

pub returns-then-count-text-clause-place : goal.returns-then-count-text-clause-place
returns-then-count-text-clause-place c =
    triple_fault c.args.text.now c.triple_len-count.result _ (omega arith) ((rw c.as_bytes.ensures.value at c.triple_len-count.ensures.stop) (omega arith))

pub returns-clause-read : goal.returns-clause-read
returns-clause-read c =
    let before = rw c.as_bytes.ensures.value at c.triple_len-count.ensures.before in (
      c.in_ok-from_str.ensures.ok,
      λ k d lt.
          ap is_triple_byte (get_or_default c.args.text.now k d 0 lt) ∙ before k (omega (arith, c.if-count-text.false)),
    )
