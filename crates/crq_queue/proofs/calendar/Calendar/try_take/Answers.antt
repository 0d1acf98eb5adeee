use Rattle.std.proofs.Common.{ap, ◌∙◌, Ok, Err, arith}
use Rattle.crq_base.specs.declared.answers.Refusal.TheVariants.{Again}
use Rattle.crq_base.specs.declared.answers.TakeEnd.TheVariants.{Taken, Missed}
use Rattle.crq_queue.specs.declared.taking.Caught.{Caught}
use Rattle.crq_queue.specs.Calls.{call}
use Rattle.crq_queue.proofs.TakeEnds.{Ends, take_within, take_inside, take_began, take_free, take_owes, take_done, take_missed, take_late, ends_at_work, take_answered, ends_so}
use Rattle.crq_queue.proofs.calendar.Calendar.try_take.Goals.{in-Ok-Some, in-Ok-None, in-Err}
use Rattle.crq_queue.proofs.calendar.Calendar.try_take.Goals as goal

pub catch-requires : goal.catch-requires
catch-requires c = let old = c.args.pass.now in let low = c.ranges.budget.fits in let begun = c.in-Ok.ensures in let enter = c.enter.ensures in let w = take_inside old low begun enter in record {
  of = w.is;
  inside = w.inside;
  began = take_began old low begun enter;
  free = take_free old low begun enter;
  one = w.second_cut;
  within = take_within old low begun enter;
}

pub cut_owed-owed-requires : goal.cut_owed-owed-requires
cut_owed-owed-requires c = let m = c.in-Ok-Some in let w = take_owes c.args.pass.now c.ranges.budget.fits c.in-Ok.ensures c.enter.ensures c.args.limit c.catch.new.pass m.field-0 m.ensures m.field-0-is (ap (λ (t : Caught). t.cut) m.caught-is) in
    record { of = w.0.is; within = let within = w.1 in omega arith; owed = w.2 }

pub leave-requires : goal.leave-requires
leave-requires c = let table = c.args.self.now.table in let old = c.args.pass.now in let budget = c.args.budget in let limit = c.args.limit in let low = c.ranges.budget.fits in let b = c.in-Ok in let begun = b.ensures in let enter = c.enter.ensures in
    let pass = c.match-catch.pass in let end = c.match-catch.end in let ends : Ends (call table budget old) c.begin.new.pass b.control limit pass end = elim c.match-catch.branch [
      | in-Ok-Some w ↦ let m = w.in-Ok-Some in ends_so old low begun limit w.cut_owed-owed.new.pass pass _ end w.pass-is (w.end-is ∙ ap (λ (t : Caught). Ok (Taken t.event t.route)) m.caught-is) (take_done old low begun enter limit c.catch.new.pass m.field-0 m.ensures m.field-0-is (ap (λ (t : Caught). t.cut) m.caught-is) w.cut_owed-owed.ensures)
      | in-Ok-None w ↦ let m = w.in-Ok-None in ends_so old low begun limit c.catch.new.pass pass (Ok Missed) end w.pass-is w.end-is (take_missed old low begun enter limit c.catch.new.pass m.field-0 m.ensures m.field-0-is)
      | in-Err w ↦ ends_so old low begun limit c.catch.new.pass pass (Err (Again budget)) end w.pass-is w.end-is (take_late old low begun enter limit c.catch.new.pass w.in-Err.ensures)
    ] in let w = (ends_at_work old low begun limit pass end ends).1 in record { of = w.is; cut = w.inside.uncut; copy = w.copy }

pub returns : goal.returns
returns c = let table = c.args.self.now.table in let old = c.args.pass.now in let budget = c.args.budget in let limit = c.args.limit in let low = c.ranges.budget.fits in let b = c.in-Ok in let begun = b.ensures in let enter = c.enter.ensures in
    let pass = c.match-catch.pass in let end = c.match-catch.end in let ends : Ends (call table budget old) c.begin.new.pass b.control limit pass end = elim c.match-catch.branch [
      | in-Ok-Some w ↦ let m = w.in-Ok-Some in ends_so old low begun limit w.cut_owed-owed.new.pass pass _ end w.pass-is (w.end-is ∙ ap (λ (t : Caught). Ok (Taken t.event t.route)) m.caught-is) (take_done old low begun enter limit c.catch.new.pass m.field-0 m.ensures m.field-0-is (ap (λ (t : Caught). t.cut) m.caught-is) w.cut_owed-owed.ensures)
      | in-Ok-None w ↦ let m = w.in-Ok-None in ends_so old low begun limit c.catch.new.pass pass (Ok Missed) end w.pass-is w.end-is (take_missed old low begun enter limit c.catch.new.pass m.field-0 m.ensures m.field-0-is)
      | in-Err w ↦ ends_so old low begun limit c.catch.new.pass pass (Err (Again budget)) end w.pass-is w.end-is (take_late old low begun enter limit c.catch.new.pass w.in-Err.ensures)
    ] in take_answered old low begun limit pass c.leave.ensures end ends
