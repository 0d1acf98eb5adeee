-- Each step of an operation on rows works: it is an exchange where the operation says so, and expects what was last known of its word.
use Rattle.std.proofs.Common.{◌≡◌, ⊎_elim, ℕ, cond, true, false, eq-eqb, ne_eqb, arith, refl, sym, ap, ◌∙◌, subst}
use Rattle.std.proofs.lemmas.Bool.{false≢true}
use Rattle.crq_base.specs.declared.kinds.StepKind.{StepKind}
use Rattle.crq_base.specs.declared.kinds.StepKind.TheVariants.{Tick as TickKind, Scan}
use Rattle.crq_rule.specs.declared.layout.Layout.{Layout}
use Rattle.crq_rule.specs.declared.view.Guard.TheVariants.{Off}
use Rattle.crq_rule.specs.declared.view.Made.{Made}
use Rattle.crq_rule.specs.declared.view.Caller.{Caller}
use Rattle.crq_rows.specs.declared.tick.TickOp.{TickOp}
use Rattle.crq_rows.specs.declared.tick.TickOp.TheVariants.{Load as Begins, Scanning, Passed}
use Rattle.crq_rows.specs.declared.tick.Tick.{Tick}
use Rattle.crq_rows.specs.declared.recover.RecoverOp.{RecoverOp}
use Rattle.crq_rows.specs.declared.recover.RecoverOp.TheVariants.{Ticking, Visiting, Taking}
use Rattle.crq_rows.specs.declared.recover.Recover.{Recover}
use Rattle.crq_rows.specs.declared.own.OwnOp.{OwnOp}
use Rattle.crq_rows.specs.declared.own.OwnOp.TheVariants.{Load, Looking, Claiming}
use Rattle.crq_rows.specs.declared.own.Own.{Own}
use Rattle.crq_rows.specs.Known.{is_exchange, is_tick, Stays, Works}
use Rattle.crq_rows.specs.Ticking.{IsTicking, TickMakes, tick_kind, TickFacts, KnowsEpoch, tick_exchanges}
use Rattle.crq_rows.specs.Recovering.{IsRecovering, RecoverMakes, recover_kind, RecoverFacts, RecoverKnows, recover_exchanges}
use Rattle.crq_rows.specs.Owning.{OwnMakes, own_kind, OwnFacts}
use Rattle.crq_rows.proofs.Ticks.{ticking_off}

-- a step that is no exchange is no tick
pub plain_no_tick : (k : StepKind) → is_exchange k ≡ false → is_tick k ≡ false
plain_no_tick TickKind e = e
plain_no_tick _ e = refl

pub tick_works : (n moved : ℕ) (l : Layout) (op op' : TickOp) (p q : Caller) (result : Tick) → TickFacts l moved op op' p q result → KnowsEpoch n l op p → IsTicking l op p → Works n (tick_exchanges l op) p q
tick_works n moved l op op' p q result f k at = record { stays = subst (Stays p) (sym f.stays) record { number = refl; start = refl; deal = refl; found = refl; guard = refl; permit = refl; sight = refl; told = refl }; step = f.made; made = f.one; kind = f.exchanges; expects = f.expects n k; timed = λ _. ticking_off l op p at; settle = λ _. ap (λ (q : Caller). q.debts.settle) f.stays }

-- a step of a recovery that raises the epoch is one of a tick
recover_timed : (l : Layout) (op : RecoverOp) (m : Made) (p : Caller) → IsRecovering l op p → RecoverMakes l op m → is_tick m.kind ≡ true → p.guard ≡ Off
recover_timed l (Ticking n tick) m p at makes is = ticking_off l tick p at.1
recover_timed l (Visiting e row) m p at makes is = absurd (false≢true (sym (ap is_tick makes.0) ∙ is))
recover_timed l (Taking e row) m p at makes is = absurd (false≢true (sym (ap is_tick makes.0) ∙ is))

pub recover_works : (n : ℕ) (l : Layout) (op op' : RecoverOp) (p q : Caller) (result : Recover) → RecoverFacts l op op' p q result → RecoverKnows n l op p → IsRecovering l op p → Works n (recover_exchanges l op) p q
recover_works n l op op' p q result f k at = record { stays = subst (Stays p) (sym f.stays) record { number = refl; start = refl; deal = refl; found = refl; guard = refl; permit = refl; sight = refl; told = refl }; step = f.made; made = f.one; kind = f.exchanges; expects = f.expects n k; timed = recover_timed l op f.made p at f.makes; settle = λ _. ap (λ (q : Caller). q.debts.settle) f.stays }

-- a search for a free row exchanges no word
pub own_plain : (l : Layout) (op : OwnOp) (m : Made) → OwnMakes l op m → is_exchange m.kind ≡ false
own_plain l Load m makes = ap is_exchange makes.0
own_plain l (Looking e row) m makes = ap is_exchange makes.0
own_plain l (Claiming e row) m makes = ap is_exchange makes.0

pub own_works : (n : ℕ) (l : Layout) (op op' : OwnOp) (p q : Caller) (result : Own) → OwnFacts l op op' p q result → Works n false p q
own_works n l op op' p q result f = let plain = own_plain l op f.made f.makes in record { stays = subst (Stays p) (sym f.stays) record { number = refl; start = refl; deal = refl; found = refl; guard = refl; permit = refl; sight = refl; told = refl }; step = f.made; made = f.one; kind = plain; expects = λ swaps. absurd (false≢true (sym plain ∙ swaps)); timed = λ yes. absurd (false≢true (sym (plain_no_tick f.made.kind plain) ∙ yes)); settle = λ _. ap (λ (q : Caller). q.debts.settle) f.stays }

-- The kind of the step that an operation made

own_kind_is : (l : Layout) (op : OwnOp) (m : Made) → OwnMakes l op m → m.kind ≡ own_kind op
own_kind_is l Load m makes = makes.0
own_kind_is l (Looking e row) m makes = makes.0
own_kind_is l (Claiming e row) m makes = makes.0

tick_kind_is : (l : Layout) (op : TickOp) (m : Made) → TickMakes l op m → m.kind ≡ tick_kind l op
tick_kind_is l Begins m makes = makes.0
tick_kind_is l (Scanning e next) m makes = ⊎_elim (λ s. s.1 ∙ ap (λ b. cond b TickKind Scan) (sym (ne_eqb next l.workers (let low = s.0 in omega arith)))) (λ t. t.1 ∙ ap (λ b. cond b TickKind Scan) (sym (eq-eqb next l.workers t.0))) makes
tick_kind_is l (Passed e) m makes = makes.0

recover_kind_is : (l : Layout) (op : RecoverOp) (m : Made) → RecoverMakes l op m → m.kind ≡ recover_kind l op
recover_kind_is l (Ticking n tick) m makes = tick_kind_is l tick m makes
recover_kind_is l (Visiting e row) m makes = makes.0
recover_kind_is l (Taking e row) m makes = makes.0

pub own_did : (n : ℕ) (l : Layout) (op op' : OwnOp) (p q : Caller) (result : Own) → OwnFacts l op op' p q result → (w : Works n false p q) × (w.step.kind ≡ own_kind op)
unfolding own_works
own_did n l op op' p q result f = (own_works n l op op' p q result f, own_kind_is l op f.made f.makes)

pub tick_did : (n moved : ℕ) (l : Layout) (op op' : TickOp) (p q : Caller) (result : Tick) → TickFacts l moved op op' p q result → KnowsEpoch n l op p → IsTicking l op p → (w : Works n (tick_exchanges l op) p q) × (w.step.kind ≡ tick_kind l op)
unfolding tick_works
tick_did n moved l op op' p q result f k at = (tick_works n moved l op op' p q result f k at, tick_kind_is l op f.made f.makes)

pub recover_did : (n : ℕ) (l : Layout) (op op' : RecoverOp) (p q : Caller) (result : Recover) → RecoverFacts l op op' p q result → RecoverKnows n l op p → IsRecovering l op p → (w : Works n (recover_exchanges l op) p q) × (w.step.kind ≡ recover_kind l op)
unfolding recover_works
recover_did n l op op' p q result f k at = (recover_works n l op op' p q result f k at, recover_kind_is l op f.made f.makes)
