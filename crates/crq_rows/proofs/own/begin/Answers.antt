use Rattle.std.proofs.Common.{◌+◌, ◌*◌, sym, ap, ◌∙◌, subst, arith}
use Rattle.std.proofs.lemmas.List.{nil_from_length}
use Rattle.crq_rule.specs.declared.pass.Pass.{Pass}
use Rattle.crq_rows.specs.declared.own.OwnOp.TheVariants.{Load, Looking}
use Rattle.crq_rows.specs.declared.own.Own.TheVariants.{More}
use Rattle.crq_rows.specs.Owning.{OwnStepped}
use Rattle.crq_rows.proofs.Owns.{own_loaded}
use Rattle.crq_rows.proofs.own.begin.Goals as goal

pub returns : goal.returns
returns c = let t = c.args.table.now in let h = t.start.layout.home in let s = c.epoch_step-epoch.ensures.stepped in
    let first = c.first_home-first.ensures ∙ ap (λ n. n * h + 1) (ap (λ (p : Pass). p.number) s.same ∙ sym c.requires.sits.numbered) in
    let item = c.in_default.ensures.item in let none = nil_from_length c.args.pass.now.free.items (omega arith) in
    subst (λ r. OwnStepped t Load (Looking c.epoch_step-epoch.result r) c.args.pass.now c.epoch_step-epoch.new.pass More) (sym first) (own_loaded t c.args.pass.now _ c.epoch_step-epoch.result none c.requires s)
