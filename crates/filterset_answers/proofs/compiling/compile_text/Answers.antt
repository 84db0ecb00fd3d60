use Rattle.std.proofs.Common.{rules, ◌≡◌, ◌+◌, Bool, true, false, ap, refl, sym}
use Rattle.std.specs.Prelude.{is_none, if◌then◌else◌}
use Rattle.filterset_entries.specs.Checked.{text_row}
use Rattle.filterset_answers.proofs.CompilingLemmas.{compiles_one}
use Rattle.filterset_answers.proofs.compiling.compile_text.Goals as goal
use Rattle.filterset_answers.proofs.compiling.compile_text.Goals.{then-is_none, else-is_none}

pub returns : goal.returns
returns c =
    let (piece, added, parsed) = c.in_ok-made.ensures in
    let row = text_row c.args.entry.now in
    let made = c.in_ok-made.made in
    let next : c.in_ok-number.number ≡ c.args.log.now.count + 1 = search rules in
    let kept : Bool → Bool = λ b. if b then true else c.args.log.now.has_any in
    elim c.if-is_none.branch [
      | then-is_none w ↦
          let none : is_none made ≡ true = search rules in
          rw w.log-is (compiles_one c.args.compiler.now row c.args.log.now _ made _ piece next refl added (sym (ap kept none)) parsed)
      | else-is_none w ↦
          let some : is_none made ≡ false = search rules in
          rw w.log-is (compiles_one c.args.compiler.now row c.args.log.now _ made _ piece next refl added (sym (ap kept some)) parsed)
    ]
