use Rattle.std.proofs.Common.{◌≡◌, ◌-◌, ◌∙◌, drop, rules, true, false, length, ◌≤◌, nat_le, map, max, not, take, ap, subst, sym}
use Rattle.std.specs.List.Sorted.{IsPartitionPoint, IsPartitionedBy}
use Rattle.std.proofs.lemmas.List.Sorted.{IsPartitionPoint-from_clause, IsPartitionedBy-leb}
use Rattle.filterset_display.specs.Cutting.{line_row, lines_of, reaches}
use Rattle.filterset_display.specs.{Lines.AreMet, declared.line.Line.Line}
use Rattle.filterset_display.proofs.MetLemmas.{ends-part, met-between, starts-rise}
use Rattle.filterset_display.proofs.source.Source.met_lines.Goals as goal

pub returns : goal.returns
returns c =
    let text = c.args.self.now.text.now in
    let lines = c.as_slice-lines.result.now in
    let from = c.args.stretch.from in
    let to = c.args.stretch.to in
    let count = c.partition_point.result in
    let cut : map line_row lines ≡ lines_of text = ap (map line_row) c.as_slice-lines.ensures.value ∙ c.args.self.now.cut in
    let last : c.max-last.result ≡ max from (to - 1) = search rules in
    let early = IsPartitionPoint-from_clause (λ (line : Line). nat_le line.start c.max-last.result) lines count c.partition_point.ensures.partitioned
    (IsPartitionedBy-leb (λ (line : Line). line.start) lines c.max-last.result (starts-rise text lines cut)) (λ a r q k. search rules) in
    let front = c.split_at.ensures.front in
    let late = IsPartitionPoint-from_clause (λ (line : Line). not (reaches from (line_row line))) c.split_at.result.0.now c.partition_point-2.result c.partition_point-2.ensures.partitioned
    (subst (IsPartitionedBy (λ (line : Line). not (reaches from (line_row line)))) (sym front) (ends-part text lines from count cut)) (λ a r q k. search rules) in
    let begun = c.split_at.result.0.now in
    let first = c.partition_point-2.result in
    let begun_is : begun ≡ take count lines = front in
    let met = met-between text lines from to count first cut c.partition_point.ensures.bound
    (subst (λ ls. first ≤ length ls) begun_is c.partition_point-2.ensures.bound)
    (subst (λ n. IsPartitionPoint (λ (line : Line). nat_le line.start n ≡ true) (λ (line : Line). nat_le line.start n ≡ false) lines count) last early)
    (subst (λ ls. IsPartitionPoint (λ (line : Line). not (reaches from (line_row line)) ≡ true) (λ (line : Line). not (reaches from (line_row line)) ≡ false) ls first) begun_is late) in
    let whole : c.split_at-2.result.1.now ≡ drop first (take count lines) = c.split_at-2.ensures.back ∙ ap (drop first) begun_is in
    subst (λ ls. AreMet text from to (map line_row ls)) (sym whole) met
