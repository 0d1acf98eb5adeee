-- Events that a worker runs at one object, one after the other, and the groups of its share.
use Rattle.std.proofs.Common.{◌≡◌, ℕ, zero, suc, ◌+◌, ◌-◌, ◌<◌, ◌≤◌, List, [], ◌∷◌, ◌++◌, length, drop, map, get_or, refl, sym, ap, ◌∙◌, subst, arith, append_assoc, append-nil, true, false, nat_eq, inl, inr}
use Rattle.std.proofs.lemmas.Bool.{cases_eq}
use Rattle.std.proofs.lemmas.Bool.Decides.{nat_tests}
use Rattle.std.proofs.lemmas.List.{drop_more, drop_all, drop-drop, length-take, length-drop}
use Rattle.std.proofs.lemmas.List.Elements.{All-from_recursion}
use Rattle.std.specs.List.{AllByRecursion}
use Rattle.std.specs.Prelude.{flat_map}
use Rattle.crq_base.specs.declared.event.Event.{Event}
use Rattle.crq_sim.specs.declared.reaction.ObjectState.{ObjectState}
use Rattle.crq_sim.specs.Models.{ModelData, IsModel}
use Rattle.crq_sim.specs.Reactions.{state_after, sends_of}
use Rattle.crq_sim.specs.Runs.{state_of, step_of}
use Rattle.crq_sim.specs.WindowRuns.{object_after, object_steps, object_sends, events_of}
use Rattle.crq_sim.proofs.Sound.{word_after, after_count, after_sent, few_sends}
use Rattle.crq_windows.specs.declared.group.Group.{Group}
use Rattle.crq_windows.specs.Groups.{IsGroup, group_events}
use Rattle.crq_host.specs.declared.worker.Changed.{Changed}
use Rattle.crq_host.specs.declared.worker.Worker.{Worker}
use Rattle.crq_host.specs.Shares.{Begun, CanRunAt, CanRunAll, KeepsOthers, RanEvents, RanMore, changed_by, group_steps, group_sends, every}

-- one event was run
pub event_ran : {P : Type 0} (m : ModelData) (e : Event) (from : Changed) (s : ObjectState) (old new : Worker P) → s ≡ state_after m from.object from.state e
    → new.steps.items ≡ old.steps.items ++ step_of e s ∷ [] → new.sends.items ≡ old.sends.items ++ sends_of m from.object from.state e → new.changed ≡ old.changed
    → RanEvents m (e ∷ []) from (record { object = from.object; state = s }) old new
unfolding object_after object_steps object_sends
event_ran m e from s old new after steps sends same = record {
  same = refl;
  state_after = after;
  steps_more = steps ∙ ap (λ (x : ObjectState). old.steps.items ++ step_of e x ∷ []) after;
  sends_more = sends ∙ ap (λ xs. old.sends.items ++ xs) (sym (append-nil (sends_of m from.object from.state e)));
  not_yet = same;
}

-- the first of several events, and then the others
can_first : (m : ModelData) (o : ℕ) (s : ObjectState) (e : Event) (es : List Event) → CanRunAt m o s (e ∷ es) → CanRunAt m o s (e ∷ [])
can_first m o s e es can = record { there = can.there; here = (can.here.0, tt); word = can.word; count = (let k = can.count in omega arith); sent = (let k = can.sent in omega arith) }

can_next : (m : ModelData) (o : ℕ) (s : ObjectState) (e : Event) (es : List Event) → IsModel m → CanRunAt m o s (e ∷ es) → CanRunAt m o (state_after m o s e) es
can_next m o s e es is can =
    let more = after_count m o s e in
    let sent = after_sent m o s e in
    let few = few_sends m o s e is can.there in
    record {
      there = can.there;
      here = can.here.1;
      word = word_after m o s e;
      count = (let k = can.count in omega arith);
      sent = (let k = can.sent in omega arith);
    }

-- where a worker stands that has to run the rest of an object's events
pub record Running {P : Type 0} (m : ModelData) (es rest : List Event) (first now : Changed) (old new : Worker P) : Type 0 where
  pub can : CanRunAt m now.object now.state rest
  pub others : KeepsOthers old new
  pub goes : (last : Changed) (end : Worker P) → RanEvents m rest now last new end → RanEvents m es first last old end

pub running_first : {P : Type 0} (m : ModelData) (es : List Event) (first : Changed) (old : Worker P) → CanRunAt m first.object first.state es → Running m es es first first old old
running_first m es first old can = record { can = can; others = (refl, refl, refl); goes = (λ last end ran. ran) }

after_first : (m : ModelData) (o : ℕ) (s : ObjectState) (e : Event) (es : List Event) → object_after m o s (e ∷ es) ≡ object_after m o (object_after m o s (e ∷ [])) es
unfolding object_after
after_first m o s e es = refl

steps_first : (m : ModelData) (o : ℕ) (s : ObjectState) (e : Event) (es : List Event) → object_steps m o s (e ∷ es) ≡ object_steps m o s (e ∷ []) ++ object_steps m o (object_after m o s (e ∷ [])) es
unfolding object_after object_steps
steps_first m o s e es = refl

sends_first : (m : ModelData) (o : ℕ) (s : ObjectState) (e : Event) (es : List Event) → object_sends m o s (e ∷ es) ≡ object_sends m o s (e ∷ []) ++ object_sends m o (object_after m o s (e ∷ [])) es
unfolding object_after object_sends
sends_first m o s e es = ap (λ xs. xs ++ object_sends m o (state_after m o s e) es) (sym (append-nil (sends_of m o s e)))

one_after : (m : ModelData) (o : ℕ) (s : ObjectState) (e : Event) → object_after m o s (e ∷ []) ≡ state_after m o s e
unfolding object_after
one_after m o s e = refl

-- one event and then the others are all of them
ran_both : {P : Type 0} (m : ModelData) (e : Event) (es : List Event) (from next last : Changed) (old new end : Worker P)
    → RanEvents m (e ∷ []) from next old new → RanEvents m es next last new end → RanEvents m (e ∷ es) from last old end
ran_both m e es from next last old new end one more =
    let o = from.object in
    let s' : ObjectState = object_after m o from.state (e ∷ []) in
    record {
      same = more.same ∙ one.same;
      state_after = more.state_after ∙ ap (λ n. object_after m n next.state es) one.same ∙ ap (λ (s : ObjectState). object_after m o s es) one.state_after ∙ sym (after_first m o from.state e es);
      steps_more = more.steps_more ∙ ap (λ xs. xs ++ object_steps m next.object next.state es) one.steps_more
          ∙ append_assoc old.steps.items (object_steps m o from.state (e ∷ [])) (object_steps m next.object next.state es)
          ∙ ap (λ n. old.steps.items ++ (object_steps m o from.state (e ∷ []) ++ object_steps m n next.state es)) one.same
          ∙ ap (λ (s : ObjectState). old.steps.items ++ (object_steps m o from.state (e ∷ []) ++ object_steps m o s es)) one.state_after
          ∙ ap (λ xs. old.steps.items ++ xs) (sym (steps_first m o from.state e es));
      sends_more = more.sends_more ∙ ap (λ xs. xs ++ object_sends m next.object next.state es) one.sends_more
          ∙ append_assoc old.sends.items (object_sends m o from.state (e ∷ [])) (object_sends m next.object next.state es)
          ∙ ap (λ n. old.sends.items ++ (object_sends m o from.state (e ∷ []) ++ object_sends m n next.state es)) one.same
          ∙ ap (λ (s : ObjectState). old.sends.items ++ (object_sends m o from.state (e ∷ []) ++ object_sends m o s es)) one.state_after
          ∙ ap (λ xs. old.sends.items ++ xs) (sym (sends_first m o from.state e es));
      not_yet = more.not_yet ∙ one.not_yet;
    }

others_both : {P : Type 0} (old new end : Worker P) → KeepsOthers old new → KeepsOthers new end → KeepsOthers old end
others_both old new end a b = (b.0 ∙ a.0, b.1 ∙ a.1, b.2 ∙ a.2)

running_here : {P : Type 0} (m : ModelData) (es : List Event) (at : ℕ) (e d : Event) (first now : Changed) (old new : Worker P) → at < length es → e ≡ get_or es at d
    → Running m es (drop at es) first now old new → Running m es (e ∷ drop (at + 1) es) first now old new
running_here m es at e d first now old new lt is h =
    subst (λ rest. Running m es rest first now old new) (drop_more es at d lt ∙ ap (λ (x : Event). x ∷ drop (at + 1) es) (sym is)) h

pub running_can : {P : Type 0} (m : ModelData) (es : List Event) (at : ℕ) (e d : Event) (first now : Changed) (old new : Worker P) → at < length es → e ≡ get_or es at d
    → Running m es (drop at es) first now old new → CanRunAt m now.object now.state (e ∷ [])
running_can m es at e d first now old new lt is h = can_first m now.object now.state e (drop (at + 1) es) (running_here m es at e d first now old new lt is h).can

pub running_next : {P : Type 0} (m : ModelData) (es : List Event) (at : ℕ) (e d : Event) (first now next : Changed) (old new more : Worker P) → IsModel m → at < length es → e ≡ get_or es at d
    → Running m es (drop at es) first now old new → KeepsOthers new more → RanEvents m (e ∷ []) now next new more → Running m es (drop (at + 1) es) first next old more
running_next m es at e d first now next old new more is lt here h others ran =
    let k = running_here m es at e d first now old new lt here h in
    let rest = drop (at + 1) es in
    let can : CanRunAt m now.object (state_after m now.object now.state e) rest = can_next m now.object now.state e rest is k.can in
    record {
      can = subst (λ n. CanRunAt m n next.state rest) (sym ran.same)
          (subst (λ (s : ObjectState). CanRunAt m now.object s rest) (sym (ran.state_after ∙ one_after m now.object now.state e)) can);
      others = others_both old new more k.others others;
      goes = (λ last end later. k.goes last end (ran_both m e rest now next last new more end ran later));
    }

-- after all events
ran_none : {P : Type 0} (m : ModelData) (now : Changed) (w : Worker P) → RanEvents m [] now now w w
unfolding object_after object_steps object_sends
ran_none m now w = record { same = refl; state_after = refl; steps_more = sym (append-nil w.steps.items); sends_more = sym (append-nil w.sends.items); not_yet = refl }

pub running_last : {P : Type 0} (m : ModelData) (es : List Event) (at : ℕ) (first now : Changed) (old new : Worker P) → length es ≤ at
    → Running m es (drop at es) first now old new → RanEvents m es first now old new
running_last m es at first now old new le h = h.goes now new (subst (λ rest. RanEvents m rest now now new new) (sym (drop_all at es le)) (ran_none m now new))

-- a group's own events
mine_due : (o until : ℕ) (es : List Event) → AllByRecursion (λ (e : Event). e.time ≤ until) es → AllByRecursion (λ (e : Event). (e.dst ≡ o) × (e.time ≤ until)) (events_of o es)
mine_due o until [] all = tt
mine_due o until (e ∷ es) all =
    elim (cases_eq e.dst o) [
      | inl same ↦ (let t : nat_eq e.dst o ≡ true = grind (arith, nat_tests) in rw t ((same, all.0), mine_due o until es all.1))
      | inr apart ↦ (let t : nat_eq e.dst o ≡ false = grind (arith, nat_tests) in rw t (mine_due o until es all.1))
    ]

group_few : (events : List Event) (g : Group) → length (group_events events g) ≤ length events
group_few events g = (let a = length-take (g.upto - g.from) (drop g.from events) in let b = length-drop g.from events in omega arith)

can_group : (b : Begun) (g : Group) → CanRunAll b → IsGroup (length b.model.objects) b.events g → CanRunAt b.model g.object (state_of b.states g.object) (group_events b.events g)
can_group b g can is =
    let few = group_few b.events g in
    record {
      there = is.object;
      here = subst (λ (es : List Event). AllByRecursion (λ (e : Event). (e.dst ≡ g.object) × (e.time ≤ b.model.until)) es) (sym is.just) (mine_due g.object b.model.until b.events can.due);
      word = can.words g.object is.object;
      count = (let k = can.counts g.object is.object in omega arith);
      sent = (let k = can.sents g.object is.object in omega arith);
    }

pub can_at : (b : Begun) (at : ℕ) (d : Group) → CanRunAll b → at < length b.groups
    → CanRunAt b.model (get_or b.groups at d).object (state_of b.states (get_or b.groups at d).object) (group_events b.events (get_or b.groups at d))
can_at b at d can lt = can_group b (get_or b.groups at d) can (All-from_recursion (IsGroup (length b.model.objects) b.events) b.groups can.by_objects.each at d lt)

-- every n-th element from k on, from the k-th element on
pub every_from : {A : Type 0} (n k : ℕ) (xs : List A) → every n k xs ≡ every n 0 (drop k xs)
every_from n k [] = ap (every n 0) (sym (drop_all k [] (omega arith)))
every_from n zero (x ∷ xs) = refl
every_from n (suc k) (x ∷ xs) = every_from n k xs

every_next : {A : Type 0} (n at : ℕ) (x d : A) (xs : List A) → 0 < n → at < length xs → x ≡ get_or xs at d → every n 0 (drop at xs) ≡ x ∷ every n 0 (drop (at + n) xs)
every_next n at x d xs some lt is =
    let n_is : at + 1 + (n - 1) ≡ at + n = omega arith in
    ap (every n 0) (drop_more xs at d lt) ∙ ap (λ y. y ∷ every n (n - 1) (drop (at + 1) xs)) (sym is)
    ∙ ap (λ ys. x ∷ ys) (every_from n (n - 1) (drop (at + 1) xs) ∙ ap (every n 0) (drop-drop (n - 1) (at + 1) xs ∙ ap (λ k. drop k xs) n_is))

-- where a worker stands that has to run the groups from index `at` on
pub record Sharing {P : Type 0} (b : Begun) (n from at : ℕ) (old new : Worker P) : Type 0 where
  pub others : KeepsOthers old new
  pub goes : (end : Worker P) → RanMore b (every n 0 (drop at b.groups)) new end → RanMore b (every n from b.groups) old end

pub sharing_first : {P : Type 0} (b : Begun) (n from : ℕ) (old : Worker P) → Sharing b n from from old old
sharing_first b n from old = record { others = (refl, refl, refl); goes = (λ end ran. subst (λ gs. RanMore b gs old end) (sym (every_from n from b.groups)) ran) }

more_both : {P : Type 0} (b : Begun) (g : Group) (gs : List Group) (old new end : Worker P) → RanMore b (g ∷ []) old new → RanMore b gs new end → RanMore b (g ∷ gs) old end
more_both b g gs old new end one more = record {
  changed_more = more.changed_more ∙ ap (λ xs. xs ++ map (changed_by b) gs) one.changed_more ∙ append_assoc old.changed.items (changed_by b g ∷ []) (map (changed_by b) gs);
  steps_more = more.steps_more ∙ ap (λ xs. xs ++ flat_map (group_steps b) gs) one.steps_more ∙ append_assoc old.steps.items (group_steps b g ++ []) (flat_map (group_steps b) gs)
      ∙ ap (λ xs. old.steps.items ++ (xs ++ flat_map (group_steps b) gs)) (append-nil (group_steps b g));
  sends_more = more.sends_more ∙ ap (λ xs. xs ++ flat_map (group_sends b) gs) one.sends_more ∙ append_assoc old.sends.items (group_sends b g ++ []) (flat_map (group_sends b) gs)
      ∙ ap (λ xs. old.sends.items ++ (xs ++ flat_map (group_sends b) gs)) (append-nil (group_sends b g));
}

pub sharing_next : {P : Type 0} (b : Begun) (n from at : ℕ) (g d : Group) (old new more : Worker P) → 0 < n → at < length b.groups → g ≡ get_or b.groups at d → Sharing b n from at old new
    → KeepsOthers new more → RanMore b (g ∷ []) new more → Sharing b n from (at + n) old more
sharing_next b n from at g d old new more some lt is h others ran = record {
  others = others_both old new more h.others others;
  goes = (λ end later. h.goes end (subst (λ gs. RanMore b gs new end) (sym (every_next n at g d b.groups some lt is)) (more_both b g (every n 0 (drop (at + n) b.groups)) new more end ran later)));
}

more_none : {P : Type 0} (b : Begun) (w : Worker P) → RanMore b [] w w
more_none b w = record { changed_more = sym (append-nil w.changed.items); steps_more = sym (append-nil w.steps.items); sends_more = sym (append-nil w.sends.items) }

pub sharing_last : {P : Type 0} (b : Begun) (n from at : ℕ) (old new : Worker P) → length b.groups ≤ at → Sharing b n from at old new → RanMore b (every n from b.groups) old new
sharing_last b n from at old new le h = h.goes new (subst (λ (gs : List Group). RanMore b (every n 0 gs) new new) (sym (drop_all at b.groups le)) (more_none b new))
