-- Entries that a pass adds, one call after another.
use Rattle.std.proofs.Common.{◌≡◌, ℕ, ◌<◌, ◌⊎◌, inl, inr, List, [], ◌∷◌, ◌++◌, refl, sym, ap, ◌∙◌, subst, append_assoc, append-nil, arith}
use Rattle.crq_base.specs.declared.entry.Entry.{Entry}
use Rattle.crq_base.specs.declared.entry.Entry.TheVariants.{Begin}
use Rattle.crq_base.specs.Histories.{puts, outs}
use Rattle.crq_base.specs.Lists.{In}
use Rattle.crq_base.proofs.HistoryLaws.{outs-append, puts-append}
use Rattle.crq_base.proofs.Elements.{in_cases, in_right}
use Rattle.crq_set.specs.Views.{PassView, Setup}
use Rattle.crq_set.specs.Answers.{Adds, AreBegins, GaveUpForRows}
use Rattle.crq_host.specs.Workers.{AllAre, LacksRowsSince}

pub adds_none : (v : PassView) → Adds v v []
adds_none v = record { number = refl; span = refl; dealt = refl; own = sym (append-nil v.own); tables = omega arith; settled = omega arith }

pub adds_both : (a b c : PassView) (xs ys : List Entry) → Adds a b xs → Adds b c ys → Adds a c (xs ++ ys)
adds_both a b c xs ys p q = record {
  number = q.number ∙ p.number;
  span = q.span ∙ p.span;
  dealt = q.dealt ∙ p.dealt;
  own = q.own ∙ ap (λ zs. zs ++ ys) p.own ∙ append_assoc a.own xs ys;
  tables = (let m = p.tables in let n = q.tables in omega arith);
  settled = (let m = p.settled in let n = q.settled in omega arith);
}

pub all_both : (Is : Entry → Type 0) (xs ys : List Entry) → AllAre Is xs → AllAre Is ys → AllAre Is (xs ++ ys)
all_both Is xs ys p q = λ x i. elim (in_cases x xs ys i) [ inl a ↦ p x a | inr b ↦ q x b ]

pub all_none : (Is : Entry → Type 0) → AllAre Is []
all_none Is = λ x i. absurd i

pub all_more : (Is : Entry → Type 0) (x : Entry) (xs : List Entry) → Is x → AllAre Is xs → AllAre Is (x ∷ xs)
all_more Is x xs h all y (inl e) = subst Is (sym e) h
all_more Is x xs h all y (inr i) = all y i

-- Begins alone
pub begins_all : (Is : Entry → Type 0) (k : ℕ) (xs : List Entry) → Is (Begin k) → AreBegins k xs → AllAre Is xs
begins_all Is k [] h b = all_none Is
begins_all Is k (x ∷ xs) h b = all_more Is x xs (subst Is (sym b.0) h) (begins_all Is k xs h b.1)

pub begins_outs : (k : ℕ) (xs : List Entry) → AreBegins k xs → outs xs ≡ []
begins_outs k [] b = refl
begins_outs k (x ∷ xs) b = ap (λ y. outs (y ∷ xs)) b.0 ∙ begins_outs k xs b.1

pub begins_puts : (k : ℕ) (xs : List Entry) → AreBegins k xs → puts xs ≡ []
begins_puts k [] b = refl
begins_puts k (x ∷ xs) b = ap (λ y. puts (y ∷ xs)) b.0 ∙ begins_puts k xs b.1

-- more entries of a call, behind those that were added
pub outs_begun : (k : ℕ) (xs begins tail : List Entry) → AreBegins k begins → outs (xs ++ (begins ++ (Begin k ∷ tail))) ≡ outs xs ++ outs tail
outs_begun k xs begins tail b =
    outs-append xs (begins ++ (Begin k ∷ tail)) ∙ ap (λ zs. outs xs ++ zs) (outs-append begins (Begin k ∷ tail) ∙ ap (λ zs. zs ++ outs tail) (begins_outs k begins b))

pub puts_begun : (k : ℕ) (xs begins tail : List Entry) → AreBegins k begins → puts (xs ++ (begins ++ (Begin k ∷ tail))) ≡ puts xs ++ puts tail
puts_begun k xs begins tail b =
    puts-append xs (begins ++ (Begin k ∷ tail)) ∙ ap (λ zs. puts xs ++ zs) (puts-append begins (Begin k ∷ tail) ∙ ap (λ zs. zs ++ puts tail) (begins_puts k begins b))

pub outs_begins : (k : ℕ) (xs begins : List Entry) → AreBegins k begins → outs (xs ++ begins) ≡ outs xs
outs_begins k xs begins b = outs-append xs begins ∙ ap (λ zs. outs xs ++ zs) (begins_outs k begins b) ∙ append-nil (outs xs)

pub puts_begins : (k : ℕ) (xs begins : List Entry) → AreBegins k begins → puts (xs ++ begins) ≡ puts xs
puts_begins k xs begins b = puts-append xs begins ∙ ap (λ zs. puts xs ++ zs) (begins_puts k begins b) ∙ append-nil (puts xs)

pub all_begun : (Is : Entry → Type 0) (k : ℕ) (xs begins tail : List Entry) → ((c : ℕ) → Is (Begin c)) → AreBegins k begins → AllAre Is xs → AllAre Is tail → AllAre Is (xs ++ (begins ++ (Begin k ∷ tail)))
all_begun Is k xs begins tail begin b h t = all_both Is xs (begins ++ (Begin k ∷ tail)) h (all_both Is begins (Begin k ∷ tail) (begins_all Is k begins (begin k) b) (all_more Is (Begin k) tail (begin k) t))

-- a call that gave up for rows began since, or was told of a table
pub lacks_since : (setup : Setup) (now next : PassView) (entries : List Entry) (g : GaveUpForRows setup now next) → LacksRowsSince setup next (entries ++ g.0)
lacks_since setup now next entries g = (g.4, began g.0 g.1 g.3)
  where
    began : (begins : List Entry) → AreBegins now.number begins → (begins ≡ [] → 0 < next.told.tables) → In (Begin next.number) (entries ++ begins) ⊎ (0 < next.told.tables)
    began [] b told = inr (told refl)
    began (x ∷ xs) b told = inl (in_right (Begin next.number) entries (x ∷ xs) (inl (ap Begin g.2.number ∙ sym b.0)))
