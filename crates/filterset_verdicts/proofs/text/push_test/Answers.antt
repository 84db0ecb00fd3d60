use Rattle.std.proofs.Common.{◌++◌, string_bytes}
use Rattle.std.specs.Prelude.{codes}
use Rattle.filterset_display.specs.Columns.{Text}
use Rattle.filterset_graph.specs.Platforms.{platform_text}
use Rattle.filterset_verdicts.specs.VerdictText.{field_line, origin_line}
use Rattle.filterset_verdicts.proofs.VerdictTextLemmas.{joined}
use Rattle.filterset_verdicts.proofs.text.push_test.Goals as goal

pub returns : goal.returns
returns c =
    let test = c.args.test.now in
    let start : Text = string_bytes c.args.output.now in
    let headed : Text = string_bytes c.push_str.new.self in
    let owned : Text = string_bytes c.push_field.new.output in
    let identified : Text = string_bytes c.push_field-2.new.output in
    let named : Text = string_bytes c.push_field-3.new.output in
    let typed : Text = string_bytes c.push_field-4.new.output in
    let placed : Text = string_bytes c.push_field-5.new.output in
    let tested : Text = string_bytes c.push_field-6.new.output in
    let whole : Text = string_bytes c.push_field-7.new.output in
    let header = origin_line c.args.is_listed in
    let owner = field_line (codes "package") c.args.name.now in
    let id = field_line (codes "binary id") test.binary_id in
    let binary = field_line (codes "binary") (string_bytes test.binary_name) in
    let kind = field_line (codes "kind") test.kind in
    let platform = field_line (codes "platform") (platform_text test.platform) in
    let name = field_line (codes "test") test.test_name in
    let group = field_line (codes "group") (string_bytes test.group) in
    let after_platform = name ++ group in
    let after_kind = platform ++ after_platform in
    let after_binary = kind ++ after_kind in
    let after_id = binary ++ after_binary in
    let after_owner = id ++ after_id in
    joined start headed whole header (owner ++ after_owner) (rw c.origin_line.ensures at c.in_ok-push_str.ensures.bytes)
    (joined headed owned whole owner after_owner c.in_ok-push_field.ensures
    (joined owned identified whole id after_id (rw c.as_str.ensures at c.in_ok-push_field-2.ensures)
    (joined identified named whole binary after_binary (rw c.as_str-2.ensures.value at c.in_ok-push_field-3.ensures)
    (joined named typed whole kind after_kind (rw c.as_str-3.ensures at c.in_ok-push_field-4.ensures)
    (joined typed placed whole platform after_platform (rw c.platform_word.ensures at c.in_ok-push_field-5.ensures)
    (joined placed tested whole name group (rw c.as_str-4.ensures at c.in_ok-push_field-6.ensures)
    (rw c.as_str-5.ensures.value at c.in_ok-push_field-7.ensures)))))))
