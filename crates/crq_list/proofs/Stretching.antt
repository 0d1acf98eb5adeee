-- Steps that are made in one go, as a loop makes them, and what a stretch of a walk is to the operation that walks.
use Rattle.std.proofs.Common.{◌≡◌, ◌⊎◌, ⊎_elim, ℕ, ◌<◌, Bool, true, false, refl, sym, ◌∙◌, subst}
use Rattle.std.proofs.lemmas.Bool.{false≢true}
use Rattle.crq_base.specs.declared.words.Control.{Control}
use Rattle.crq_rule.specs.declared.pass.Pass.{Pass}
use Rattle.crq_rule.specs.declared.pass.Table.{Table}
use Rattle.crq_rows.specs.Passes.{caller, IsPassOf}
use Rattle.crq_list.specs.declared.parts.Progress.{Progress}
use Rattle.crq_list.specs.declared.parts.Progress.TheVariants.{More, Done}
use Rattle.crq_list.specs.declared.seek.SeekState.{SeekState}
use Rattle.crq_list.specs.declared.seek.Sought.{Sought}
use Rattle.crq_list.specs.declared.seek.SeekEnd.{SeekEnd}
use Rattle.crq_list.specs.declared.seek.SeekEnd.TheVariants.{There, Frozen as FoundFrozen}
use Rattle.crq_list.specs.declared.insert.InsertOp.{InsertOp}
use Rattle.crq_list.specs.declared.insert.InsertState.{InsertState}
use Rattle.crq_list.specs.declared.insert.InsertState.TheVariants.{Seeking}
use Rattle.crq_list.specs.declared.insert.InsertEnd.{InsertEnd}
use Rattle.crq_list.specs.declared.cut.CutOp.{CutOp}
use Rattle.crq_list.specs.declared.take.MarkEnd.{MarkEnd}
use Rattle.crq_list.specs.declared.take.TakeOp.{TakeOp}
use Rattle.crq_list.specs.declared.take.TakeState.{TakeState}
use Rattle.crq_list.specs.Stretches.{Stretch, ends, goes_on}
use Rattle.crq_list.specs.Seeking.{IsSeeking, SeekStepped, SeekStretch, seek_exchanges}
use Rattle.crq_list.specs.Cutting.{CutStepped, CutStretch, progress_of}
use Rattle.crq_list.specs.Inserting.{sought_by, IsInserting, InsertStepped, InsertStretch, after_seek, insert_exchanges}
use Rattle.crq_list.specs.Taking.{IsTaking, TakeStepped, TakeStretch, take_exchanges}
use Rattle.crq_list.proofs.SeekSteps.{cut_ends, cut_frozen}
use Rattle.crq_list.proofs.InsertLaws.{seeks_on, seeks_there, seeks_frozen}

module _ (S A : Type 0) (Stepped : S → S → Pass → Pass → A → Type 0) (exchanges : S → Bool) (more : A) where
  -- from the state `now` on, whatever stretch follows, is one from the first state on
  abbrev pub Goes : S → S → Pass → Pass → Type 0
  Goes first now old mid = (after : S) (new : Pass) (answer : A) → Stretch S A Stepped exchanges more now after mid new answer → Stretch S A Stepped exchanges more first after old new answer

  pub none_yet : (s : S) (p : Pass) → Goes s s p p
  none_yet s p after new answer rest = rest

  pub one_more : (first now next : S) (old mid new : Pass) → Goes first now old mid → Stepped now next mid new more → exchanges next ≡ false → Goes first next old new
  one_more first now next old mid new goes step plain after last answer rest = goes after last answer (goes_on now next after mid new last answer step plain rest)

  pub the_last : (first now next : S) (old mid new : Pass) (answer : A) → Goes first now old mid → Stepped now next mid new answer → Stretch S A Stepped exchanges more first next old new answer
  the_last first now next old mid new answer goes step = goes next new answer (ends now next mid new answer step)

  -- a stretch, and one that follows on it
  pub stretch_on : (first now last : S) (old mid new : Pass) (answer : A) → Stretch S A Stepped exchanges more first now old mid more → exchanges now ≡ false → Stretch S A Stepped exchanges more now last mid new answer → Stretch S A Stepped exchanges more first last old new answer
  stretch_on first now last old mid new answer (ends _ _ _ _ _ step) plain rest = goes_on first now last old mid new answer step plain rest
  stretch_on first now last old mid new answer (goes_on _ next _ _ between _ _ step still then) plain rest = goes_on first next last old between new answer step still (stretch_on next now last between mid new answer then plain rest)

  -- what each step that tells of more to do leaves holds after a stretch that tells so
  pub stretch_leaves : (Holds : S → Pass → Type 0) → ((s s' : S) (p q : Pass) → Stepped s s' p q more → Holds s' q) → (first now : S) (old mid : Pass) → Stretch S A Stepped exchanges more first now old mid more → Holds now mid
  stretch_leaves Holds leaves first now old mid (ends _ _ _ _ _ step) = leaves first now old mid step
  stretch_leaves Holds leaves first now old mid (goes_on _ next _ _ between _ _ step still then) = stretch_leaves Holds leaves next now between mid then

-- what is left falls where the step was no exchange
pub fell : (exchanges : Bool) (left less : ℕ) → exchanges ≡ false → (exchanges ≡ true) ⊎ (less < left) → less < left
fell exchanges left less plain told = ⊎_elim (λ yes. absurd (false≢true (sym plain ∙ yes))) (λ falls. falls) told

-- A cut

pub cut_told : (n : ℕ) (table : Table) (x : Control) (op : CutOp) (seek seek' : SeekState) (old new : Pass) (answer : Progress SeekEnd) → op.swept ≡ false → SeekStepped n table x op.sought seek seek' old new answer
    → CutStepped n table x (record op { state = seek }) (record op { state = seek' }) old new (progress_of answer)
cut_told n table x op seek seek' old new More plain s = record { is = s.is; works = s.works; kind = s.kind; copying = s.copying; turns = s.turns; number = s.number; free = s.free; debts = s.debts; own = s.own; owed = s.owed; answers = ((s.answers.0, λ swept. absurd (false≢true (sym plain ∙ swept))), refl, s.answers.1) }
cut_told n table x op seek seek' old new (Done (There b)) plain s = cut_ends n table x (record op { state = seek }) (record op { state = seek' }) b old new s
cut_told n table x op seek seek' old new (Done FoundFrozen) plain s = cut_frozen n table x (record op { state = seek }) (record op { state = seek' }) old new s

pub cut_stretch : (n : ℕ) (table : Table) (x : Control) (op : CutOp) (seek seek' : SeekState) (old new : Pass) (answer : Progress SeekEnd) → op.swept ≡ false → SeekStretch n table x op.sought seek seek' old new answer
    → CutStretch n table x (record op { state = seek }) (record op { state = seek' }) old new (progress_of answer)
cut_stretch n table x op seek seek' old new answer unswept (ends _ _ _ _ _ s) = ends _ _ old new _ (cut_told n table x op seek seek' old new answer unswept s)
cut_stretch n table x op seek seek' old new answer unswept (goes_on _ mid _ _ between _ _ s plain rest) =
    goes_on _ (record op { state = mid }) _ old between new _ (cut_told n table x op seek mid old between More unswept s) plain (cut_stretch n table x op mid seek' between new answer unswept rest)

-- An insertion

pub seek_told : (n : ℕ) (table : Table) (x : Control) (op : InsertOp) (seek seek' : SeekState) (old new : Pass) (answer : Progress SeekEnd) → IsPassOf table old → IsInserting n table x (record op { state = Seeking seek }) (caller table old)
    → SeekStepped n table x (sought_by op) seek seek' old new answer → InsertStepped n table x (record op { state = Seeking seek }) (record op { state = (after_seek seek' answer).0 }) old new (after_seek seek' answer).1
seek_told n table x op seek seek' old new More of i s = seeks_on n table x op old new seek seek' of i s
seek_told n table x op seek seek' old new (Done (There b)) of i s = seeks_there n table x op old new seek seek' b of i s
seek_told n table x op seek seek' old new (Done FoundFrozen) of i s = seeks_frozen n table x op old new seek seek' of i s

pub insert_stretch : (n : ℕ) (table : Table) (x : Control) (op : InsertOp) (seek seek' : SeekState) (old new : Pass) (answer : Progress SeekEnd) → IsPassOf table old → IsInserting n table x (record op { state = Seeking seek }) (caller table old)
    → SeekStretch n table x (sought_by op) seek seek' old new answer → InsertStretch n table x (record op { state = Seeking seek }) (record op { state = (after_seek seek' answer).0 }) old new (after_seek seek' answer).1
insert_stretch n table x op seek seek' old new answer of i (ends _ _ _ _ _ s) = ends _ _ old new _ (seek_told n table x op seek seek' old new answer of i s)
insert_stretch n table x op seek seek' old new answer of i (goes_on _ mid _ _ between _ _ s plain rest) = let told = seek_told n table x op seek mid old between More of i s in
    goes_on _ (record op { state = Seeking mid }) _ old between new _ told plain (insert_stretch n table x op mid seek' between new answer told.is told.answers.0 rest)

-- Where a stretch told that there is more to do: the pass, what is known, and the stretch to that state

module _ (n : ℕ) (table : Table) (x : Control) (sought : Sought) where
  pub seek_part : (first now : SeekState) (old mid : Pass) (told : SeekState × Progress SeekEnd) → told.0 ≡ now → told.1 ≡ More → SeekStretch n table x sought first told.0 old mid told.1
      → IsPassOf table mid × IsSeeking n table x sought now (caller table mid) × SeekStretch n table x sought first now old mid More
  seek_part first now old mid told at more run = let part = subst (λ (z : SeekState × Progress SeekEnd). SeekStretch n table x sought first z.0 old mid z.1) (λ i. (at i, more i)) run in
      let left = stretch_leaves SeekState (Progress SeekEnd) (SeekStepped n table x sought) seek_exchanges More (λ s p. IsPassOf table p × IsSeeking n table x sought s (caller table p)) (λ s s' p q step. (step.is, step.answers.0)) first now old mid part in
      (left.0, left.1, part)

  -- after a stretch the pass is one of the table, and if there is more to do, what is known is so
  pub seek_holds : (first now : SeekState) (old mid : Pass) (answer : Progress SeekEnd) → SeekStretch n table x sought first now old mid answer → IsPassOf table mid × (answer ≡ More → IsSeeking n table x sought now (caller table mid))
  seek_holds first now old mid answer (ends _ _ _ _ _ step) = (step.is, λ more. (subst (λ z. SeekStepped n table x sought first now old mid z) more step).answers.0)
  seek_holds first now old mid answer (goes_on _ next _ _ between _ _ step still then) = seek_holds next now between mid answer then

  pub seek_on : (first now last : SeekState) (old mid new : Pass) (answer : Progress SeekEnd) → SeekStretch n table x sought first now old mid More → seek_exchanges now ≡ false → SeekStretch n table x sought now last mid new answer → SeekStretch n table x sought first last old new answer
  seek_on = stretch_on SeekState (Progress SeekEnd) (SeekStepped n table x sought) seek_exchanges More

module _ (n : ℕ) (table : Table) (x : Control) (op : InsertOp) where
  pub insert_part : (first : InsertOp) (now : InsertState) (old mid : Pass) (told : InsertState × Progress InsertEnd) → told.0 ≡ now → told.1 ≡ More → InsertStretch n table x first (record op { state = told.0 }) old mid told.1
      → IsPassOf table mid × IsInserting n table x (record op { state = now }) (caller table mid) × InsertStretch n table x first (record op { state = now }) old mid More
  insert_part first now old mid told at more run = let part = subst (λ (z : InsertState × Progress InsertEnd). InsertStretch n table x first (record op { state = z.0 }) old mid z.1) (λ i. (at i, more i)) run in
      let left = stretch_leaves InsertOp (Progress InsertEnd) (InsertStepped n table x) insert_exchanges More (λ s p. IsPassOf table p × IsInserting n table x s (caller table p)) (λ s s' p q step. (step.is, step.answers.0)) first (record op { state = now }) old mid part in
      (left.0, left.1, part)

  pub insert_holds : (first now : InsertOp) (old mid : Pass) (answer : Progress InsertEnd) → InsertStretch n table x first now old mid answer → IsPassOf table mid × (answer ≡ More → IsInserting n table x now (caller table mid))
  insert_holds first now old mid answer (ends _ _ _ _ _ step) = (step.is, λ more. (subst (λ z. InsertStepped n table x first now old mid z) more step).answers.0)
  insert_holds first now old mid answer (goes_on _ next _ _ between _ _ step still then) = insert_holds next now between mid answer then

  pub insert_on : (first now last : InsertOp) (old mid new : Pass) (answer : Progress InsertEnd) → InsertStretch n table x first now old mid More → insert_exchanges now ≡ false → InsertStretch n table x now last mid new answer → InsertStretch n table x first last old new answer
  insert_on = stretch_on InsertOp (Progress InsertEnd) (InsertStepped n table x) insert_exchanges More

module _ (n : ℕ) (table : Table) (x : Control) (op : TakeOp) where
  pub take_part : (first now : TakeState) (old mid : Pass) (told : TakeState × Progress MarkEnd) → told.0 ≡ now → told.1 ≡ More → TakeStretch n table x (record op { state = first }) (record op { state = told.0 }) old mid told.1
      → IsPassOf table mid × IsTaking n table x (record op { state = now }) (caller table mid) × TakeStretch n table x (record op { state = first }) (record op { state = now }) old mid More
  take_part first now old mid told at more run = let part = subst (λ (z : TakeState × Progress MarkEnd). TakeStretch n table x (record op { state = first }) (record op { state = z.0 }) old mid z.1) (λ i. (at i, more i)) run in
      let left = stretch_leaves TakeOp (Progress MarkEnd) (TakeStepped n table x) take_exchanges More (λ s p. IsPassOf table p × IsTaking n table x s (caller table p)) (λ s s' p q step. (step.is, step.answers.0)) (record op { state = first }) (record op { state = now }) old mid part in
      (left.0, left.1, part)

  pub take_on : (first now last : TakeState) (old mid new : Pass) (answer : Progress MarkEnd) → TakeStretch n table x (record op { state = first }) (record op { state = now }) old mid More → take_exchanges (record op { state = now }) ≡ false
      → TakeStretch n table x (record op { state = now }) (record op { state = last }) mid new answer → TakeStretch n table x (record op { state = first }) (record op { state = last }) old new answer
  take_on first now last = stretch_on TakeOp (Progress MarkEnd) (TakeStepped n table x) take_exchanges More (record op { state = first }) (record op { state = now }) (record op { state = last })

-- A stretch from the state in which the operation is, whatever it told

pub insert_from : (n : ℕ) (table : Table) (x : Control) (op : InsertOp) (s : InsertState) (old new new' : Pass) (r r' : InsertState × Progress InsertEnd) → op.state ≡ s → new' ≡ new → r' ≡ r
    → (IsInserting n table x (record op { state = s }) (caller table old) → InsertStretch n table x (record op { state = s }) (record op { state = r.0 }) old new r.1)
    → IsInserting n table x op (caller table old) → InsertStretch n table x op (record op { state = r'.0 }) old new' r'.1
insert_from n table x op s old new new' r r' at pass answer run i = subst (λ (z : Pass × (InsertState × Progress InsertEnd)). InsertStretch n table x op (record op { state = z.1.0 }) old z.0 z.1.1) (λ k. (sym pass k, sym answer k))
    (subst (λ z. IsInserting n table x (record op { state = z }) (caller table old) → InsertStretch n table x (record op { state = z }) (record op { state = r.0 }) old new r.1) (sym at) run i)

pub take_from : (n : ℕ) (table : Table) (x : Control) (op : TakeOp) (s : TakeState) (old new new' : Pass) (r r' : TakeState × Progress MarkEnd) → op.state ≡ s → new' ≡ new → r' ≡ r
    → (IsTaking n table x (record op { state = s }) (caller table old) → TakeStretch n table x (record op { state = s }) (record op { state = r.0 }) old new r.1)
    → IsTaking n table x op (caller table old) → TakeStretch n table x op (record op { state = r'.0 }) old new' r'.1
take_from n table x op s old new new' r r' at pass answer run i = subst (λ (z : Pass × (TakeState × Progress MarkEnd)). TakeStretch n table x op (record op { state = z.1.0 }) old z.0 z.1.1) (λ k. (sym pass k, sym answer k))
    (subst (λ z. IsTaking n table x (record op { state = z }) (caller table old) → TakeStretch n table x (record op { state = z }) (record op { state = r.0 }) old new r.1) (sym at) run i)
