use Rattle.std.proofs.Common.{◌≡◌, List, set, length, length-set, sym, ap, ◌∙◌, subst, arith}
use Rattle.std.specs.Prelude.{slice_get}
use Rattle.crq_rule.specs.declared.layout.Start.{Start}
use Rattle.crq_rule.specs.declared.pass.Seating.{Seating}
use Rattle.crq_rule.specs.declared.pass.Seating.TheVariants.{Lifted}
use Rattle.crq_rows.specs.Passes.{IsNew}
use Rattle.crq_rows.proofs.Slots.{get_here, get_else}
use Rattle.crq_rows.proofs.Deals.{same_pass}
use Rattle.crq_hold.proofs.NewPasses.{lifted_new, lowered_here}
use Rattle.crq_hold.proofs.tests.epochs.pair.Goals as goal

pub lift-zero-requires : goal.lift-zero-requires
lift-zero-requires c = let t = c.passes-table.result.0 in let few = t.start.layout.few in let h = c.passes-table.ensures.new.each 0 (omega arith) in (h.0, h.1)

pub lift-one-requires : goal.lift-one-requires
lift-one-requires c = let t = c.passes-table.result.0 in let ps : List Seating = c.passes-table.result.1.places.items in
    let two : t.start.layout.workers ≡ 2 = ap (λ (s : Start). s.layout.workers) (c.passes-table.ensures.start ∙ c.in_ok-open_table.ensures.of) ∙ c.of-layout.ensures.0 in
    let h = c.passes-table.ensures.new.each 1 (omega arith) in (h.0, ap (λ (xs : List Seating). slice_get xs 1) c.lift-zero.ensures.now ∙ (get_else ps 0 1 Lifted (λ e. omega arith) ∙ h.1))

pub lower-requires : goal.lower-requires
lower-requires c = let t = c.passes-table.result.0 in let few = t.start.layout.few in let ps : List Seating = c.passes-table.result.1.places.items in let new = c.passes-table.ensures.new in let w = new.wide in
    let n : c.lift-zero.result.number ≡ 0 = (lifted_new t ps 0 c.lift-zero.result (omega arith) new c.lift-zero.ensures.was).number in
    ap (slice_get c.lift-one.new.self.places.items) n ∙ (ap (λ (xs : List Seating). slice_get xs 0) (c.lift-one.ensures.now ∙ ap (λ (xs : List Seating). set xs 1 Lifted) c.lift-zero.ensures.now)
    ∙ (get_else (set ps 0 Lifted) 1 0 Lifted (λ e. omega arith) ∙ get_here ps 0 Lifted (omega arith)))

pub lift-zero-requires-2 : goal.lift-zero-requires-2
lift-zero-requires-2 c = let t = c.passes-table.result.0 in let few = t.start.layout.few in let ps : List Seating = c.passes-table.result.1.places.items in let new = c.passes-table.ensures.new in let w = new.wide in
    let is = lifted_new t ps 0 c.lift-zero.result (omega arith) new c.lift-zero.ensures.was in
    let wide : length c.lift-one.new.self.places.items ≡ length ps = ap length (c.lift-one.ensures.now ∙ ap (λ (xs : List Seating). set xs 1 Lifted) c.lift-zero.ensures.now) ∙ (length-set (set ps 0 Lifted) 1 Lifted ∙ length-set ps 0 Lifted) in
    let here = ap (λ (xs : List Seating). slice_get xs 0) c.lower.ensures ∙ lowered_here c.lift-one.new.self.places.items c.lift-zero.result 0 is.number (omega arith) in
    (c.lift-zero.result, here)

pub returns-clause-first : goal.returns-clause-first
returns-clause-first c = let t = c.passes-table.result.0 in let few = t.start.layout.few in let ps : List Seating = c.passes-table.result.1.places.items in let new = c.passes-table.ensures.new in let w = new.wide in
    let is = lifted_new t ps 0 c.lift-zero.result (omega arith) new c.lift-zero.ensures.was in
    let wide : length c.lift-one.new.self.places.items ≡ length ps = ap length (c.lift-one.ensures.now ∙ ap (λ (xs : List Seating). set xs 1 Lifted) c.lift-zero.ensures.now) ∙ (length-set (set ps 0 Lifted) 1 Lifted ∙ length-set ps 0 Lifted) in
    let here = ap (λ (xs : List Seating). slice_get xs 0) c.lower.ensures ∙ lowered_here c.lift-one.new.self.places.items c.lift-zero.result 0 is.number (omega arith) in
    subst (IsNew t 0) (same_pass c.lift-zero.result c.lift-zero-2.result (sym here ∙ c.lift-zero-2.ensures.was)) is

pub returns-clause-second : goal.returns-clause-second
returns-clause-second c = let t = c.passes-table.result.0 in let ps : List Seating = c.passes-table.result.1.places.items in
    let two : t.start.layout.workers ≡ 2 = ap (λ (s : Start). s.layout.workers) (c.passes-table.ensures.start ∙ c.in_ok-open_table.ensures.of) ∙ c.of-layout.ensures.0 in
    lifted_new t ps 1 c.lift-one.result (omega arith) c.passes-table.ensures.new (sym (ap (λ (xs : List Seating). slice_get xs 1) c.lift-zero.ensures.now ∙ get_else ps 0 1 Lifted (λ e. omega arith)) ∙ c.lift-one.ensures.was)
