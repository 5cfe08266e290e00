use Rattle.std.proofs.Common.{◌≡◌, [], ◌∷◌, ◌++◌, map, length, ap, ◌∙◌, arith, length-append}
use lib.ListN.{length-map}
use Rattle.std.proofs.lemmas.Bool.{cond-true, lt-ltb}
use Rattle.std.proofs.lemmas.List.{map_push}
use Rattle.packets.specs.Summaries.{description_at}
use Rattle.places.specs.Lists.{listed as items}
use Rattle.arrivals.specs.Readings.{described_at, naming_view}
use Rattle.arrivals.specs.Summaries.{listed}
use Rattle.arrivals.specs.Walks.{ahead}
use Rattle.arrivals.proofs.ReadingLaws.{described_met}
use Rattle.arrivals.proofs.SummaryLaws.{read_more, summary_short}
use Rattle.arrivals.proofs.summary.Descriptions.collect.Goals as goal

pub loop-node-init : goal.loop-node-init
loop-node-init g c =
    let ops = g.K.Kind.model in
    let none = c.none-descriptions.ensures in
    let s = ap (ahead description_at 16) c.into_iter-node-iterator.ensures.into_iter_gives ∙ c.start-node-items.ensures in
    let n = ap length none in
    let l = ap length s in (
      omega (arith, summary_short description_at c.args.groups.now, c.requires),
      ap (λ ms. ms ++ map (described_at ops) (ahead description_at 16 c.into_iter-node-iterator.result)) none ∙ ap (map (described_at ops)) s ∙ described_met ops c.args.groups.now,
    )

pub loop-node-preserved : goal.loop-node-preserved
loop-node-preserved g c =
    let ops = g.K.Kind.model in
    let d = c.loop-node.descriptions in
    let inv = c.loop-node.invariant in
    let x = described_at ops (c.in-Some.node, c.in-Some.entry) in
    let n : length (listed d) ≡ length (items d.all) = length-map (items d.all) naming_view in
    let l = ap length c.in-Some.ensures.steps in
    let added : map naming_view (items c.push.new.self) ≡ listed d ++ x ∷ [] =
    ap (map naming_view) (c.push.ensures ∙ cond-true _ _ _ (lt-ltb (length (items d.all)) 127 (omega (arith, inv.0))))
    ∙ map_push naming_view (items d.all) c.read-naming.result ∙ ap (λ m. listed d ++ m ∷ []) c.read-naming.ensures in
    let m = ap length added in
    let a = length-append (listed d) (x ∷ []) in (
      omega (arith, inv.0),
      read_more (listed d) _ _ _ _ _ added (ap (map (described_at ops)) c.in-Some.ensures.steps) inv.1,
    )
