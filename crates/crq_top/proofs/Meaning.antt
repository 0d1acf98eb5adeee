-- What an ending means, and where each status must come.
use Rattle.std.proofs.Common.{◌≡◌, ◌⊎◌, ◌≤◌, ◌<◌, ◌^◌, ℕ, zero, suc, List, [], refl, ap, sym, subst, ◌∙◌, inl, inr, Option, Some, None, Result, Ok, Err, length, arith}
use Rattle.std.proofs.lemmas.List.{append-nil}
use Rattle.crq_host.specs.declared.drive_end.DriveEnd.TheVariants as drive_ends
use Rattle.crq_io.specs.Faults.{NoFault}
use Rattle.crq_io.specs.Told.{Appends, IsTold}
use Rattle.crq_reader.specs.declared.fault.ModelFault.{ModelFault}
use Rattle.crq_reader.specs.Language.{language}
use Rattle.crq_sim.specs.Models.{ModelData}
use Rattle.crq_sim.specs.Runs.{beginning}
use Rattle.crq_sim.specs.Windows.{Stop, Events as StopsByEvents, Rows as StopsByRows}
use Rattle.crq_sim.proofs.WindowFacts.{one_stop}
use Rattle.crq_top.specs.Commands.{Asked, run, check, serial, gen, Request, Asks, AsksNothing}
use Rattle.crq_top.specs.declared.ending.Ending.{Ending}
use Rattle.crq_top.specs.declared.ending.Ending.TheVariants as endings
use Rattle.crq_top.specs.declared.ending.Status.TheVariants as statuses
use Rattle.crq_top.specs.declared.texts.Role.{Role}
use Rattle.crq_top.specs.declared.texts.Role.TheVariants as roles
use Rattle.crq_top.specs.Endings.{line_of, status_of}
use Rattle.crq_top.specs.Meanings.{Names, AreBytesOf, IsModelOf, IsFaultOf, IsTextOf, CannotRead, IsTooLong, IsStopped, HasStop, RunsThrough, Stops, IsCause, IsDue, IsToldOf, limit_of, Concludes}
use Rattle.crq_top.specs.Sessions.{Found, Resources, Session}
use Rattle.crq_top.specs.Statuses.{EndsAs, Prints, IsCutShort, Means, IsPosed, IsAccepted, Yields, Comes}
use Rattle.crq_top.proofs.Spelling.{one_asked}

appends_none : (old new : Option (List ℕ)) → Appends old new [] → new ≡ old
appends_none None new h = h
appends_none (Some xs) new h = h ∙ ap Some (append-nil xs)

module _ (q : Request) (s : Session) where
  -- what was due of a call that printed its text, ended otherwise, or was cut off
  by_text : (due : Result (List ℕ) Ending) → IsDue q s.resources due → Concludes s.out_before s.out_after due endings.Ok → Prints q s
  by_text (Ok text) is (inl w) = (is.0, is.1, (text, is.2, w.1))
  by_text (Err x) is (inl w) = absurd ((subst (λ z. IsDue q s.resources (Err z)) (sym w.0) is).2.0)
  by_text due is (inr c) = absurd (let k = c.0 in cc)

  by_line : (e : Ending) (due : Result (List ℕ) Ending) → (e ≡ endings.Ok → ⊥) → (e ≡ endings.Write → ⊥)
      → IsDue q s.resources due → Concludes s.out_before s.out_after due e → IsDue q s.resources (Err e) × Appends s.out_before.written s.out_after.written (line_of e)
  by_line e (Ok text) not_ok not_cut is (inl w) = absurd (not_ok w.0)
  by_line e (Err x) not_ok not_cut is (inl w) =
      (subst (λ z. IsDue q s.resources (Err z)) (sym w.0) is, subst (λ z. Appends s.out_before.written s.out_after.written (line_of z)) (sym w.0) w.1)
  by_line e due not_ok not_cut is (inr c) = absurd (not_cut c.0)

  by_cut : (due : Result (List ℕ) Ending) → IsDue q s.resources due → Concludes s.out_before s.out_after due endings.Write → IsCutShort q s
  by_cut (Ok text) is (inl w) = absurd (let k = w.0 in cc)
  by_cut (Err x) is (inl w) = absurd ((subst (λ z. IsDue q s.resources (Err z)) (sym w.0) is).2.0)
  by_cut due is (inr c) = record { due = due; is_due = is; cut = c.1 }

  -- the line of an ending that has one, and what was due
  lined : (e : Ending) → (e ≡ endings.Ok → ⊥) → (e ≡ endings.Write → ⊥) → EndsAs q s e → IsDue q s.resources (Err e) × Appends s.out_before.written s.out_after.written (line_of e)
  lined e not_ok not_cut h = by_line e h.due not_ok not_cut h.is_due h.concludes

  -- each ending means what its status says
  pub means : (e : Ending) → EndsAs q s e → Means q s (status_of e)
  means endings.Ok h = by_text h.due h.is_due h.concludes
  means endings.Usage h = lined endings.Usage (λ k. cc) (λ k. cc) h
  means (endings.Model f) h = (f, (let r = lined (endings.Model f) (λ k. cc) (λ k. cc) h in r))
  means endings.Memory h = (let r = lined endings.Memory (λ k. cc) (λ k. cc) h in (appends_none s.out_before.written s.out_after.written r.1, r.0.2))
  means endings.Read h = lined endings.Read (λ k. cc) (λ k. cc) h
  means endings.Write h = by_cut h.due h.is_due h.concludes
  means endings.Long h = lined endings.Long (λ k. cc) (λ k. cc) h
  means (endings.Events w) h = (w, (let r = lined (endings.Events w) (λ k. cc) (λ k. cc) h in r))
  means (endings.Rows w p) h = (w, p, (let r = lined (endings.Rows w p) (λ k. cc) (λ k. cc) h in r))

-- one command names one file in a role
same_name : (a : Asked) (role : Role) (m n : List ℕ) → Names a role m → Names a role n → m ≡ n
same_name (run model workers rows events) roles.Model m n h k = sym h ∙ k
same_name (check model) roles.Model m n h k = sym h ∙ k
same_name (serial model events) roles.Model m n h k = sym h ∙ k
same_name (gen seed objects population) roles.Model m n h k = absurd h

-- what is told is what was fetched
same_bytes : (told : Option (Option (List ℕ))) (xs ys : List ℕ) → told ≡ Some (Some xs) → IsTold told ys → xs ≡ ys
same_bytes None xs ys h k = absurd (cc)
same_bytes (Some found) xs ys h k = cc

fetched_told : (found : Found) (a : Asked) (xs ys : List ℕ) → IsToldOf found a roles.Model xs → AreBytesOf found a roles.Model ys → xs ≡ ys
fetched_told found a xs ys h k = same_bytes (found h.name) xs ys h.told (subst (λ n. IsTold (found n) ys) (same_name a roles.Model k.name h.name k.named h.named) k.told)

-- the model of a text of a command that reads one, whose run went through
text_model : (r : Resources) (a : Asked) (name text : List ℕ) → Names a roles.Model name → IsTextOf r a text → (m : ModelData) × IsModelOf r.files_before.found a m × RunsThrough a m
text_model r (run model workers rows events) name text named h = (h.0, h.1, h.2.goes)
text_model r (check model) name text named h = (h.0, h.1, tt)
text_model r (serial model events) name text named h = (h.0, h.1, h.2.0.0)
text_model r (gen seed objects population) name text named h = absurd named

-- what stopped a run stands against its going through
stopped_by_events : (r : Resources) (a : Asked) (m : ModelData) (window : ℕ) → Stops r a m (drive_ends.Events window) → HasStop a m (StopsByEvents window)
stopped_by_events r (run model workers rows events) m window h = h.0
stopped_by_events r (check model) m window h = absurd h
stopped_by_events r (serial model events) m window h = h.0
stopped_by_events r (gen seed objects population) m window h = absurd h

stopped_by_rows : (r : Resources) (a : Asked) (m : ModelData) (window pending : ℕ) → Stops r a m (drive_ends.Rows window pending) → HasStop a m (StopsByRows window pending)
stopped_by_rows r (run model workers rows events) m zero pending h = h.0
stopped_by_rows r (run model workers rows events) m (suc window) pending h = h.0
stopped_by_rows r (check model) m window pending h = absurd h
stopped_by_rows r (serial model events) m window pending h = absurd h
stopped_by_rows r (gen seed objects population) m window pending h = absurd h

stop_ends : (a : Asked) (m : ModelData) (stop : Stop) → HasStop a m stop → RunsThrough a m → ⊥
stop_ends (run model workers rows events) m stop h goes = goes stop h
stop_ends (check model) m stop h goes = h
stop_ends (serial model events) m (StopsByEvents window) h goes = h.0 goes
stop_ends (serial model events) m (StopsByRows window pending) h goes = h
stop_ends (gen seed objects population) m stop h goes = h

-- a run that rows stop isn't stopped by events
not_both : (a : Asked) (m : ModelData) (j k p : ℕ) → HasStop a m (StopsByEvents j) → HasStop a m (StopsByRows k p) → ⊥
not_both (run model workers rows events) m j k p h g = (let same = one_stop m (beginning m) events rows (StopsByEvents j) (StopsByRows k p) h g in cc)
not_both (check model) m j k p h g = h
not_both (serial model events) m j k p h g = g
not_both (gen seed objects population) m j k p h g = h

-- the bytes spell this model, and are few enough
Spelled : List ℕ → ModelData → Type 0
Spelled bytes m = (length bytes ≤ limit_of roles.Model) × (language bytes ≡ Ok m)

-- what an ending leaves of a command whose model's bytes are told, where no fault of reading was counted
abbrev Leaves : Asked → List ℕ → Ending → Type 0
Leaves a bytes endings.Ok = (m : ModelData) × Spelled bytes m × RunsThrough a m
Leaves a bytes endings.Usage = ⊥
Leaves a bytes (endings.Model f) = (length bytes ≤ limit_of roles.Model) × (language bytes ≡ Err f)
Leaves a bytes endings.Memory = Unit {0}
Leaves a bytes endings.Read = ⊥
Leaves a bytes endings.Write = Unit {0}
Leaves a bytes endings.Long = limit_of roles.Model < length bytes
Leaves a bytes (endings.Events window) = (m : ModelData) × Spelled bytes m × HasStop a m (StopsByEvents window)
Leaves a bytes (endings.Rows window pending) = (m : ModelData) × Spelled bytes m × HasStop a m (StopsByRows window pending)

-- a model that the command has, from the bytes that are told
told_model : (found : Found) (a : Asked) (bytes : List ℕ) (m : ModelData) → IsToldOf found a roles.Model bytes → IsModelOf found a m → Spelled bytes m
unfolding Spelled
told_model found a bytes m told h =
    let same : h.bytes ≡ bytes = sym (fetched_told found a bytes h.bytes told h.fetched) in
    (subst (λ b. length b ≤ limit_of roles.Model) same h.fetched.short, subst (λ b. language b ≡ Ok m) same h.spelled)

told_fault : (found : Found) (a : Asked) (bytes : List ℕ) (f : ModelFault) → IsToldOf found a roles.Model bytes → IsFaultOf found a f → (length bytes ≤ limit_of roles.Model) × (language bytes ≡ Err f)
told_fault found a bytes f told h =
    let same : h.bytes ≡ bytes = sym (fetched_told found a bytes h.bytes told h.fetched) in
    (subst (λ b. length b ≤ limit_of roles.Model) same h.fetched.short, subst (λ b. language b ≡ Err f) same h.refused)

told_long : (found : Found) (a : Asked) (bytes : List ℕ) (role : Role) (name : List ℕ) → IsToldOf found a roles.Model bytes → Names a role name
    → ((xs : List ℕ) → found name ≡ Some (Some xs) → limit_of role < length xs) → limit_of roles.Model < length bytes
told_long found a bytes roles.Model name told named more = more bytes (ap found (same_name a roles.Model name told.name named told.named) ∙ told.told)

told_read : (found : Found) (a : Asked) (bytes : List ℕ) (role : Role) (name : List ℕ) → IsToldOf found a roles.Model bytes → Names a role name → found name ≡ Some None → ⊥
told_read found a bytes roles.Model name told named absent =
    let there : found name ≡ Some (Some bytes) = ap found (same_name a roles.Model name told.name named told.named) ∙ told.told in
    let both : Some None ≡ Some (Some bytes) = sym absent ∙ there in cc

-- bytes spell one model, and no fault
one_model : (bytes : List ℕ) (m n : ModelData) → Spelled bytes m → language bytes ≡ Ok n → m ≡ n
unfolding Spelled
one_model bytes m n h k = (let both : Ok m ≡ Ok n = sym h.1 ∙ k in cc)

no_fault_of : (bytes : List ℕ) (m : ModelData) (f : ModelFault) → Spelled bytes m → language bytes ≡ Err f → ⊥
unfolding Spelled
no_fault_of bytes m f h k = (let both : Ok m ≡ Err f = sym h.1 ∙ k in cc)

not_long : (bytes : List ℕ) (m : ModelData) → Spelled bytes m → limit_of roles.Model < length bytes → ⊥
unfolding Spelled
not_long bytes m h more = (let short = h.0 in omega arith)

module _ (q : Request) (s : Session) (few : q.most < 2 ^ 64) where
  -- what is true of the command that was read is true of the command that is known
  moved : (P : Asked → Type 0) (a : Asked) → Asks q a → (b : Asked) × Asks q b × P b → P a
  moved P a asked h = subst P (one_asked q h.0 a few h.1 asked) h.2

  -- the cause of an ending of a command that is known
  cause_of : (a : Asked) (e : Ending) → Asks q a → (e ≡ endings.Ok → ⊥) → (e ≡ endings.Write → ⊥) → (e ≡ endings.Usage → ⊥) → EndsAs q s e → IsCause s.resources a e
  cause_of a endings.Ok asked not_ok not_cut not_usage h = absurd (not_ok refl)
  cause_of a endings.Usage asked not_ok not_cut not_usage h = absurd (not_usage refl)
  cause_of a (endings.Model f) asked not_ok not_cut not_usage h = moved (λ b. IsCause s.resources b (endings.Model f)) a asked (lined q s (endings.Model f) not_ok not_cut h).0
  cause_of a endings.Memory asked not_ok not_cut not_usage h = moved (λ b. IsCause s.resources b endings.Memory) a asked (lined q s endings.Memory not_ok not_cut h).0
  cause_of a endings.Read asked not_ok not_cut not_usage h = moved (λ b. IsCause s.resources b endings.Read) a asked (lined q s endings.Read not_ok not_cut h).0
  cause_of a endings.Write asked not_ok not_cut not_usage h = absurd (not_cut refl)
  cause_of a endings.Long asked not_ok not_cut not_usage h = moved (λ b. IsCause s.resources b endings.Long) a asked (lined q s endings.Long not_ok not_cut h).0
  cause_of a (endings.Events w) asked not_ok not_cut not_usage h = moved (λ b. IsCause s.resources b (endings.Events w)) a asked (lined q s (endings.Events w) not_ok not_cut h).0
  cause_of a (endings.Rows w p) asked not_ok not_cut not_usage h = moved (λ b. IsCause s.resources b (endings.Rows w p)) a asked (lined q s (endings.Rows w p) not_ok not_cut h).0

  leaves : (a : Asked) (bytes : List ℕ) (e : Ending) → IsPosed q s a bytes → EndsAs q s e → Leaves a bytes e
  leaves a bytes endings.Ok k h =
      let t = means q s endings.Ok h in
      let text = moved (λ b. (text : List ℕ) × IsTextOf s.resources b text × Appends s.out_before.written s.out_after.written text) a k.asked t in
      let m = text_model s.resources a k.told.name text.0 k.told.named text.1 in
      (m.0, told_model s.resources.files_before.found a bytes m.0 k.told m.1, m.2)
  leaves a bytes endings.Usage k h = (means q s endings.Usage h).0.0 a k.asked
  leaves a bytes (endings.Model f) k h = told_fault s.resources.files_before.found a bytes f k.told (cause_of a (endings.Model f) k.asked (λ z. cc) (λ z. cc) (λ z. cc) h).0
  leaves a bytes endings.Memory k h = tt
  leaves a bytes endings.Read k h =
      let r : CannotRead s.resources.files_before s.resources.files_after a = (cause_of a endings.Read k.asked (λ z. cc) (λ z. cc) (λ z. cc) h).0 in
      elim r.cause [ inl rose ↦ k.no_fault rose | inr absent ↦ told_read s.resources.files_before.found a bytes r.role r.name k.told r.named absent ]
  leaves a bytes endings.Write k h = tt
  leaves a bytes endings.Long k h =
      let r : IsTooLong s.resources.files_before.found a = (cause_of a endings.Long k.asked (λ z. cc) (λ z. cc) (λ z. cc) h).0 in
      told_long s.resources.files_before.found a bytes r.role r.name k.told r.named r.more
  leaves a bytes (endings.Events w) k h =
      let r : IsStopped s.resources a (drive_ends.Events w) = cause_of a (endings.Events w) k.asked (λ z. cc) (λ z. cc) (λ z. cc) h in
      (r.model, told_model s.resources.files_before.found a bytes r.model k.told r.is_model, stopped_by_events s.resources a r.model w r.stops)
  leaves a bytes (endings.Rows w p) k h =
      let r : IsStopped s.resources a (drive_ends.Rows w p) = cause_of a (endings.Rows w p) k.asked (λ z. cc) (λ z. cc) (λ z. cc) h in
      (r.model, told_model s.resources.files_before.found a bytes r.model k.told r.is_model, stopped_by_rows s.resources a r.model w p r.stops)

  -- an ending with a text or a cause has a command
  usage_comes : (e : Ending) → EndsAs q s e → AsksNothing q → (status_of e ≡ statuses.Usage) ⊎ (status_of e ≡ statuses.Write)
  usage_comes endings.Ok h none = (let t = means q s endings.Ok h in absurd (none t.0 t.1))
  usage_comes endings.Usage h none = inl refl
  usage_comes (endings.Model f) h none = (let d = (lined q s (endings.Model f) (λ z. cc) (λ z. cc) h).0 in absurd (none d.0 d.1))
  usage_comes endings.Memory h none = (let d = (lined q s endings.Memory (λ z. cc) (λ z. cc) h).0 in absurd (none d.0 d.1))
  usage_comes endings.Read h none = (let d = (lined q s endings.Read (λ z. cc) (λ z. cc) h).0 in absurd (none d.0 d.1))
  usage_comes endings.Write h none = inr refl
  usage_comes endings.Long h none = (let d = (lined q s endings.Long (λ z. cc) (λ z. cc) h).0 in absurd (none d.0 d.1))
  usage_comes (endings.Events w) h none = (let d = (lined q s (endings.Events w) (λ z. cc) (λ z. cc) h).0 in absurd (none d.0 d.1))
  usage_comes (endings.Rows w p) h none = (let d = (lined q s (endings.Rows w p) (λ z. cc) (λ z. cc) h).0 in absurd (none d.0 d.1))

  model_comes : (a : Asked) (bytes : List ℕ) (f : ModelFault) (e : Ending) → Leaves a bytes e → length bytes ≤ limit_of roles.Model → language bytes ≡ Err f → Yields (status_of e) statuses.Model
  model_comes a bytes f endings.Ok l short is = absurd (no_fault_of bytes l.0 f l.1 is)
  model_comes a bytes f endings.Usage l short is = absurd l
  model_comes a bytes f (endings.Model g) l short is = inl refl
  model_comes a bytes f endings.Memory l short is = inr (inl refl)
  model_comes a bytes f endings.Read l short is = absurd l
  model_comes a bytes f endings.Write l short is = inr (inr refl)
  model_comes a bytes f endings.Long l short is = absurd (omega arith)
  model_comes a bytes f (endings.Events w) l short is = absurd (no_fault_of bytes l.0 f l.1 is)
  model_comes a bytes f (endings.Rows w p) l short is = absurd (no_fault_of bytes l.0 f l.1 is)

  long_comes : (a : Asked) (bytes : List ℕ) (e : Ending) → Leaves a bytes e → limit_of roles.Model < length bytes → Yields (status_of e) statuses.Long
  long_comes a bytes endings.Ok l more = absurd (not_long bytes l.0 l.1 more)
  long_comes a bytes endings.Usage l more = absurd l
  long_comes a bytes (endings.Model g) l more = absurd (let short = l.0 in omega arith)
  long_comes a bytes endings.Memory l more = inr (inl refl)
  long_comes a bytes endings.Read l more = absurd l
  long_comes a bytes endings.Write l more = inr (inr refl)
  long_comes a bytes endings.Long l more = inl refl
  long_comes a bytes (endings.Events w) l more = absurd (not_long bytes l.0 l.1 more)
  long_comes a bytes (endings.Rows w p) l more = absurd (not_long bytes l.0 l.1 more)

  events_comes : (a : Asked) (bytes : List ℕ) (m : ModelData) (e : Ending) → Leaves a bytes e → IsAccepted bytes m → (RunsThrough a m → ⊥)
      → ((window pending : ℕ) → HasStop a m (StopsByRows window pending) → ⊥) → Yields (status_of e) statuses.Events
  events_comes a bytes m endings.Ok l is stops enough = absurd (stops (subst (RunsThrough a) (one_model bytes l.0 m l.1 is.spelled) l.2))
  events_comes a bytes m endings.Usage l is stops enough = absurd l
  events_comes a bytes m (endings.Model g) l is stops enough = absurd (let both : Err g ≡ Ok m = sym l.1 ∙ is.spelled in cc)
  events_comes a bytes m endings.Memory l is stops enough = inr (inl refl)
  events_comes a bytes m endings.Read l is stops enough = absurd l
  events_comes a bytes m endings.Write l is stops enough = inr (inr refl)
  events_comes a bytes m endings.Long l is stops enough = absurd (let short = is.short in omega arith)
  events_comes a bytes m (endings.Events w) l is stops enough = inl refl
  events_comes a bytes m (endings.Rows w p) l is stops enough = absurd (enough w p (subst (λ n. HasStop a n (StopsByRows w p)) (one_model bytes l.0 m l.1 is.spelled) l.2))

  rows_comes : (a : Asked) (bytes : List ℕ) (m : ModelData) (window pending : ℕ) (e : Ending) → Leaves a bytes e → IsAccepted bytes m → HasStop a m (StopsByRows window pending) → Yields (status_of e) statuses.Rows
  rows_comes a bytes m window pending endings.Ok l is stop = absurd (stop_ends a m (StopsByRows window pending) stop (subst (RunsThrough a) (one_model bytes l.0 m l.1 is.spelled) l.2))
  rows_comes a bytes m window pending endings.Usage l is stop = absurd l
  rows_comes a bytes m window pending (endings.Model g) l is stop = absurd (let both : Err g ≡ Ok m = sym l.1 ∙ is.spelled in cc)
  rows_comes a bytes m window pending endings.Memory l is stop = inr (inl refl)
  rows_comes a bytes m window pending endings.Read l is stop = absurd l
  rows_comes a bytes m window pending endings.Write l is stop = inr (inr refl)
  rows_comes a bytes m window pending endings.Long l is stop = absurd (let short = is.short in omega arith)
  rows_comes a bytes m window pending (endings.Events w) l is stop =
      absurd (not_both a m w window pending (subst (λ n. HasStop a n (StopsByEvents w)) (one_model bytes l.0 m l.1 is.spelled) l.2) stop)
  rows_comes a bytes m window pending (endings.Rows w p) l is stop = inl refl

  complete_comes : (a : Asked) (bytes : List ℕ) (m : ModelData) (e : Ending) → EndsAs q s e → Leaves a bytes e → IsAccepted bytes m → RunsThrough a m
      → NoFault s.out_before.faults s.out_after.faults → (status_of e ≡ statuses.Ok) ⊎ (status_of e ≡ statuses.Memory)
  complete_comes a bytes m endings.Ok h l is goes none = inl refl
  complete_comes a bytes m endings.Usage h l is goes none = absurd l
  complete_comes a bytes m (endings.Model g) h l is goes none = absurd (let both : Err g ≡ Ok m = sym l.1 ∙ is.spelled in cc)
  complete_comes a bytes m endings.Memory h l is goes none = inr refl
  complete_comes a bytes m endings.Read h l is goes none = absurd l
  complete_comes a bytes m endings.Write h l is goes none = absurd (none (means q s endings.Write h).cut.rose)
  complete_comes a bytes m endings.Long h l is goes none = absurd (let short = is.short in omega arith)
  complete_comes a bytes m (endings.Events w) h l is goes none =
      absurd (stop_ends a m (StopsByEvents w) (subst (λ n. HasStop a n (StopsByEvents w)) (one_model bytes l.0 m l.1 is.spelled) l.2) goes)
  complete_comes a bytes m (endings.Rows w p) h l is goes none =
      absurd (stop_ends a m (StopsByRows w p) (subst (λ n. HasStop a n (StopsByRows w p)) (one_model bytes l.0 m l.1 is.spelled) l.2) goes)

  alone_comes : (a : Asked) (e : Ending) → EndsAs q s e → Asks q a → ((role : Role) (name : List ℕ) → Names a role name → ⊥)
      → NoFault s.out_before.faults s.out_after.faults → (status_of e ≡ statuses.Ok) ⊎ (status_of e ≡ statuses.Memory)
  alone_comes a endings.Ok h asked nameless none = inl refl
  alone_comes a endings.Usage h asked nameless none = absurd ((means q s endings.Usage h).0.0 a asked)
  alone_comes a (endings.Model f) h asked nameless none =
      (let r : IsFaultOf s.resources.files_before.found a f = (cause_of a (endings.Model f) asked (λ z. cc) (λ z. cc) (λ z. cc) h).0 in absurd (nameless roles.Model r.fetched.name r.fetched.named))
  alone_comes a endings.Memory h asked nameless none = inr refl
  alone_comes a endings.Read h asked nameless none =
      (let r : CannotRead s.resources.files_before s.resources.files_after a = (cause_of a endings.Read asked (λ z. cc) (λ z. cc) (λ z. cc) h).0 in absurd (nameless r.role r.name r.named))
  alone_comes a endings.Write h asked nameless none = absurd (none (means q s endings.Write h).cut.rose)
  alone_comes a endings.Long h asked nameless none =
      (let r : IsTooLong s.resources.files_before.found a = (cause_of a endings.Long asked (λ z. cc) (λ z. cc) (λ z. cc) h).0 in absurd (nameless r.role r.name r.named))
  alone_comes a (endings.Events w) h asked nameless none =
      (let r : IsStopped s.resources a (drive_ends.Events w) = cause_of a (endings.Events w) asked (λ z. cc) (λ z. cc) (λ z. cc) h in absurd (nameless roles.Model r.is_model.fetched.name r.is_model.fetched.named))
  alone_comes a (endings.Rows w p) h asked nameless none =
      (let r : IsStopped s.resources a (drive_ends.Rows w p) = cause_of a (endings.Rows w p) asked (λ z. cc) (λ z. cc) (λ z. cc) h in absurd (nameless roles.Model r.is_model.fetched.name r.is_model.fetched.named))

  -- each status comes where it must
  pub comes : (e : Ending) → EndsAs q s e → Comes q s (status_of e)
  comes e h = record {
    usage = usage_comes e h;
    model = λ a bytes f k short is. model_comes a bytes f e (leaves a bytes e k h) short is;
    long = λ a bytes k more. long_comes a bytes e (leaves a bytes e k h) more;
    events = λ a bytes m k is stops enough. events_comes a bytes m e (leaves a bytes e k h) is stops enough;
    rows = λ a bytes m window pending k is stop. rows_comes a bytes m window pending e (leaves a bytes e k h) is stop;
    complete = λ a bytes m k is goes none. complete_comes a bytes m e h (leaves a bytes e k h) is goes none;
    complete_alone = λ a asked nameless none. alone_comes a e h asked nameless none;
  }
