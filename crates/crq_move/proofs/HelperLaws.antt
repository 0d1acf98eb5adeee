-- What a helper of a move knows of the heads after one more was found, or left.
use Rattle.std.proofs.Common.{◌≡◌, ◌≢◌, ⊎_elim, inl, inr, ℕ, ◌+◌, ◌^◌, ◌<◌, ◌≤◌, ◌&&◌, ltb, cond, Bool, true, false, [], ◌∷◌, ◌++◌, length, length-append, drop, Some, eq-eqb, refl, sym, ap, ◌∙◌, subst, arith, le_refl}
use Rattle.std.proofs.lemmas.Bool.{false≢true, lt-ltb}
use Rattle.std.proofs.lemmas.Option.{same_Some}
use mathlib.Core.Logic.{dite}
use native.Mathlib.Decide.{ℕ_discrete}
use Rattle.crq_base.specs.declared.kinds.StepKind.{StepKind}
use Rattle.crq_base.specs.declared.kinds.StepKind.TheVariants.{Walk}
use Rattle.crq_base.specs.declared.words.Link.{Link}
use Rattle.crq_base.specs.declared.words.Mark.TheVariants.{Mov}
use Rattle.crq_base.specs.declared.words.Control.{Control}
use Rattle.crq_base.specs.Words.{link_word}
use Rattle.crq_rule.specs.declared.debts.Debts.{Debts}
use Rattle.crq_rule.specs.declared.pass.Pass.{Pass}
use Rattle.crq_rule.specs.declared.pass.Table.{Table}
use Rattle.crq_rule.specs.declared.view.Help.{Help}
use Rattle.crq_rule.specs.declared.view.Made.{Made}
use Rattle.crq_rule.specs.declared.view.Caller.{Caller}
use Rattle.crq_rule.specs.Core.{HasName, names_of}
use Rattle.crq_rule.specs.Parts.{IsOn}
use Rattle.crq_rule.specs.Places.{index, head}
use Rattle.crq_rule.specs.Kinds.{makes}
use Rattle.crq_rule.specs.Ranks.{at_head}
use Rattle.crq_rule.specs.Helping.{IsHelping, old_head, new_head, is_mov, helped_by, passes_head, passed_on, is_prepared_next, is_frozen_next}
use Rattle.crq_rule.specs.ListKinds.{no_take, relieved}
use Rattle.crq_rule.specs.MoveKinds.{leaves_head}
use Rattle.crq_rule.specs.Moves.{Lawful}
use Rattle.crq_rule.proofs.NameLaws.{was_left}
use Rattle.crq_rows.specs.Known.{is_exchange, is_tick}
use Rattle.crq_rows.specs.Passes.{caller, IsPassOf, load_made, step_made}
use Rattle.crq_rows.proofs.Knowing.{known_here}
use Rattle.crq_list.specs.Known.{last_known, Stays, Works}
use Rattle.crq_list.specs.Swaps.{Saw}
use Rattle.crq_list.proofs.SeekLaws.{was_owed}
use Rattle.crq_move.specs.Steps.{HeadLeft}
use Rattle.crq_move.specs.Helpers.{IsHelper, PartStepped}

-- a helper's counts are within the heads
pub help_fits : (x : Control) (p : Caller) (h : Help) → Lawful p → p.found.control ≡ Some x → p.help ≡ Some h → IsHelping x h
help_fits x p h law found helps = let w = law.helping h helps in subst (λ z. IsHelping z h) (same_Some w.0 x (sym w.1 ∙ found)) w.2

-- and the table that it helps to move into has a generation
pub help_room : (x : Control) (p : Caller) → Lawful p → IsHelper x p → x.generation + 1 < 2 ^ 30
help_room x p law is = let w = law.helping is.helps.0 is.helps.1 in subst (λ (z : Control). z.generation + 1 < 2 ^ 30) (same_Some w.0 x (sym w.1 ∙ is.control)) w.3

-- what a helper knows after it found the link l in the head q, or left it there
pub left_help : (x : Control) (p : Caller) (q : ℕ) (l : Link) (h : Help) → p.found.control ≡ Some x → p.help ≡ Some h → helped_by p.found.control p.number (at_head q) l p.help ≡ Some (passes_head x p.number q l h)
left_help x p q l h found helps = λ i. helped_by (found i) p.number (at_head q) l (helps i)

-- a count stays, or rises
pub passed_stays : (b : Bool) (n : ℕ) → n ≤ passed_on b n
passed_stays true n = omega arith
passed_stays false n = le_refl n

-- a next head that is open in the new table is counted
pub prepared_more : (x : Control) (j q : ℕ) (l : Link) (n m : ℕ) → m ≤ n → m < 2 ^ x.new_log → q ≡ new_head x j m → x.generation < l.generation → m + 1 ≤ passed_on (is_prepared_next x j q l n) n
prepared_more x j q l n m low more is newer = dite (ℕ_discrete n m)
    (λ same. let next : is_prepared_next x j q l n ≡ true = λ i. (ap (λ z. ltb z (2 ^ x.new_log)) same ∙ lt-ltb m (2 ^ x.new_log) more) i && ((eq-eqb q (new_head x j n) (is ∙ ap (new_head x j) (sym same))) i && (lt-ltb x.generation l.generation newer) i) in
    subst (λ b. m + 1 ≤ passed_on b n) (sym next) (omega arith))
    (λ other. let stays = passed_stays (is_prepared_next x j q l n) n in omega arith)

-- and so is one of the table that moves, where it is frozen
pub frozen_more : (x : Control) (j q : ℕ) (l : Link) (n m : ℕ) → m ≤ n → m < 2 ^ x.log → q ≡ old_head x j m → l.mark ≡ Mov → m + 1 ≤ passed_on (is_frozen_next x j q l n) n
frozen_more x j q l n m low more is mov = dite (ℕ_discrete n m)
    (λ same. let next : is_frozen_next x j q l n ≡ true = λ i. (ap (λ z. ltb z (2 ^ x.log)) same ∙ lt-ltb m (2 ^ x.log) more) i && ((eq-eqb q (old_head x j n) (is ∙ ap (old_head x j) (sym same))) i && (ap is_mov mov) i) in
    subst (λ b. m + 1 ≤ passed_on b n) (sym next) (omega arith))
    (λ other. let stays = passed_stays (is_frozen_next x j q l n) n in omega arith)

-- a helper stays one
pub helper_stays : (x : Control) (p q : Caller) → IsHelper x p → Stays p q → (h : Help) × (q.help ≡ Some h) × (h.generation ≡ x.generation) → IsHelper x q
helper_stays x p q is stays helps = record {
  on = subst IsOn (sym stays.guard) is.on;
  control = ap (λ f. f.control) stays.found ∙ is.control;
  is_control = is.is_control;
  moving = is.moving;
  helps = helps;
}

-- no step is forgotten
pub counted_on : (n : ℕ) (b : Bool) (p q : Caller) → Works n b p q → n ≤ length p.made → n ≤ length q.made
counted_on n b p q works low = subst (λ ms. n ≤ length ms) (sym works.made) (simp length-append (omega arith))

-- a head was loaded
pub loaded_part : (n : ℕ) (table : Table) (old new : Pass) (q : ℕ) (l : Link) → IsPassOf table old → Saw table old new (at_head q) no_take l → PartStepped n table false Walk old new
loaded_part n table old new q l of s = let p : Caller = caller table old in let gone = relieved p.found.control (at_head q) p.position.rows l s.event in record {
  is = s.is;
  works = record {
    stays = subst (Stays p) (sym s.part) record { number = refl; start = refl; deal = refl; found = refl; guard = refl; permit = refl; sight = refl; told = refl };
    step = load_made Walk (index table.start.layout (head q)) (link_word l);
    made = ap (λ (r : Caller). r.made) s.part;
    kind = refl;
    expects = λ no. absurd (false≢true no);
    timed = λ no. absurd (false≢true no);
    settle = λ _. ap (λ (r : Caller). r.debts.settle) s.part;
  };
  kind_is = refl;
  turns = ap (λ (r : Pass). r.turns) s.same;
  number = ap (λ (r : Pass). r.number) s.same;
  free = ap (λ (r : Pass). r.free.items) s.same;
  debts = ap (λ (r : Pass). r.debts) s.same;
  own = ap (λ (r : Caller). r.own) s.part;
  cut = ap (λ (r : Caller). r.cut) s.part;
  owed = λ d has. ⊎_elim (λ w. inl (was_owed p.found.control (at_head q) p.position.rows l s.event p.debts.cut d w)) (λ w. inr (was_owed p.found.control (at_head q) p.position.rows l s.event p.debts.second_cut d w))
      (was_left (gone p.debts.cut) (gone p.debts.second_cut) d (subst (λ (r : Caller). HasName (names_of r.debts) d) s.part has));
}

-- and its link is known since
pub loaded_known : (n : ℕ) (table : Table) (old new : Pass) (q : ℕ) (l : Link) → n ≤ length (caller table old).made → Saw table old new (at_head q) no_take l → last_known (drop n (caller table new).made) (index table.start.layout (head q)) ≡ Some (link_word l)
loaded_known n table old new q l counted s = let p : Caller = caller table old in let m : Made = load_made Walk (index table.start.layout (head q)) (link_word l) in
    ap (λ (r : Caller). last_known (drop n r.made) (index table.start.layout (head q))) s.part ∙ known_here n p.made m (index table.start.layout (head q)) counted refl

-- an exchange of a head was made, which expected the link that was known
pub left_part : (n : ℕ) (table : Table) (kind : StepKind) (old new : Pass) (q : ℕ) (l left : Link) (won : Bool) → is_exchange kind ≡ true → is_tick kind ≡ false
    → last_known (drop n (caller table old).made) (index table.start.layout (head q)) ≡ Some (link_word l) → link_word l ≢ link_word left → HeadLeft kind table old new q l left won → PartStepped n table true kind old new
left_part n table kind old new q l left won swaps no_tick known apart s = let p : Caller = caller table old in let m : Made = step_made kind (index table.start.layout (head q)) (link_word l) (link_word left) s.found in record {
  is = s.is;
  works = record {
    stays = subst (Stays p) (sym s.part) (stays p m won);
    step = m;
    made = ap (λ (r : Caller). r.made) s.part ∙ ap (λ ms. ms ++ m ∷ []) (made p won);
    kind = swaps;
    expects = λ _. (known, apart);
    timed = λ yes. absurd (false≢true (sym no_tick ∙ yes));
    settle = λ _. ap (λ (r : Caller). r.debts.settle) s.part ∙ ap (λ d. d.settle) (debts p won);
  };
  kind_is = refl;
  turns = s.turns;
  number = ap (λ (r : Pass). r.number) s.same;
  free = ap (λ (r : Pass). r.free.items) s.same;
  debts = ap (λ (r : Pass). r.debts) s.same;
  own = ap (λ (r : Caller). r.own) s.part ∙ own p won;
  cut = ap (λ (r : Caller). r.cut) s.part ∙ cut p won;
  owed = λ d has. subst (λ (z : Debts). HasName (names_of z) d) (ap (λ (r : Caller). r.debts) s.part ∙ debts p won) has;
}
  where
    stays : (p : Caller) (m : Made) (b : Bool) → Stays p (makes m (cond b (leaves_head q left p) p))
    stays p m true = record { number = refl; start = refl; deal = refl; found = refl; guard = refl; permit = refl; sight = refl; told = refl }
    stays p m false = record { number = refl; start = refl; deal = refl; found = refl; guard = refl; permit = refl; sight = refl; told = refl }

    made : (p : Caller) (b : Bool) → (cond b (leaves_head q left p) p).made ≡ p.made
    made p true = refl
    made p false = refl

    debts : (p : Caller) (b : Bool) → (cond b (leaves_head q left p) p).debts ≡ p.debts
    debts p true = refl
    debts p false = refl

    own : (p : Caller) (b : Bool) → (cond b (leaves_head q left p) p).own ≡ p.own
    own p true = refl
    own p false = refl

    cut : (p : Caller) (b : Bool) → (cond b (leaves_head q left p) p).cut ≡ p.cut
    cut p true = refl
    cut p false = refl

-- what is known of the heads after a head was loaded
pub loaded_help : (table : Table) (old new : Pass) (x : Control) (q : ℕ) (l : Link) (h : Help) → (caller table old).found.control ≡ Some x → (caller table old).help ≡ Some h → Saw table old new (at_head q) no_take l
    → (caller table new).help ≡ Some (passes_head x (caller table old).number q l h)
loaded_help table old new x q l h found helps s = ap (λ (r : Caller). r.help) s.part ∙ left_help x (caller table old) q l h found helps

-- after an exchange that won
pub won_help : (kind : StepKind) (table : Table) (old new : Pass) (x : Control) (q : ℕ) (l left : Link) (h : Help) → (caller table old).found.control ≡ Some x → (caller table old).help ≡ Some h → HeadLeft kind table old new q l left true
    → (caller table new).help ≡ Some (passes_head x (caller table old).number q left h)
won_help kind table old new x q l left h found helps s = ap (λ (r : Caller). r.help) s.part ∙ left_help x (caller table old) q left h found helps

-- and after one that did not
pub lost_help : (kind : StepKind) (table : Table) (old new : Pass) (q : ℕ) (l left : Link) → HeadLeft kind table old new q l left false → (caller table new).help ≡ (caller table old).help
lost_help kind table old new q l left s = ap (λ (r : Caller). r.help) s.part
