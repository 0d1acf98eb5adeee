-- The order of events is total, and tells them apart.
use Rattle.std.proofs.Common.{◌≡◌, ℕ, true, false, refl, arith, ap, ◌∙◌}
use Rattle.std.proofs.lemmas.Bool.Decides.{nat_tests}
use Rattle.std.specs.Cmp.{IsTotalOrder}
use Rattle.std.specs.Ordering.{is_lt, is_eq, nat_cmp, ordering_reverse, ordering_then}
use Rattle.std.specs.declared.cmp.Ordering.{Ordering}
use Rattle.std.specs.declared.cmp.Ordering.TheVariants.{Less, Equal, Greater}
use Rattle.std.proofs.lemmas.Cmp.{on_total, then_total, nat_cmp_total, tied_itself}
use Rattle.crq_base.specs.declared.event.Event.{Event}
use Rattle.crq_base.specs.Keys.{event_cmp, IsBefore}

-- each field is compared in a total order, and so are they one after another
pub event_total : IsTotalOrder event_cmp
event_total =
    then_total (on_total (λ (e : Event). e.time) nat_cmp_total)
    (then_total (on_total (λ (e : Event). e.src) nat_cmp_total)
    (then_total (on_total (λ (e : Event). e.seq) nat_cmp_total)
    (then_total (on_total (λ (e : Event). e.dst) nat_cmp_total) (on_total (λ (e : Event). e.load) nat_cmp_total))))

nat_equal : (a b : ℕ) → nat_cmp a b ≡ Equal → a ≡ b
nat_equal a b h = grind (arith, nat_tests)

then_equal : (p q : Ordering) → ordering_then p q ≡ Equal → (p ≡ Equal) × (q ≡ Equal)
then_equal Less q h = absurd (cc)
then_equal Equal q h = (refl, h)
then_equal Greater q h = absurd (cc)

-- events that the order doesn't tell apart are one
pub same_event : (a b : Event) → event_cmp a b ≡ Equal → a ≡ b
same_event a b h =
    let one = then_equal _ _ h in
    let two = then_equal _ _ one.1 in
    let three = then_equal _ _ two.1 in
    let four = then_equal _ _ three.1 in
    let time = nat_equal a.time b.time one.0 in
    let src = nat_equal a.src b.src two.0 in
    let seq = nat_equal a.seq b.seq three.0 in
    let dst = nat_equal a.dst b.dst four.0 in
    let load = nat_equal a.load b.load four.1 in
    λ i. record { time = time i; src = src i; seq = seq i; dst = dst i; load = load i }

less_is : (o : Ordering) → is_lt o ≡ true → o ≡ Less
less_is Less h = refl
less_is Equal h = absurd (cc)
less_is Greater h = absurd (cc)

is_less : (o : Ordering) → o ≡ Less → is_lt o ≡ true
is_less o h = rw h refl

greater_is : (o : Ordering) → is_lt o ≡ false → is_eq o ≡ false → o ≡ Greater
greater_is Less h k = absurd (cc)
greater_is Equal h k = absurd (cc)
greater_is Greater h k = refl

pub before_trans : (a b c : Event) → IsBefore a b → IsBefore b c → IsBefore a c
before_trans a b c h k = is_less _ (event_total.trans a b c (less_is _ h) (less_is _ k))

-- of two different events one is before the other
pub before_else : (a b : Event) → is_lt (event_cmp a b) ≡ false → is_eq (event_cmp a b) ≡ false → IsBefore b a
before_else a b h k = is_less _ (event_total.antisymm b a ∙ ap ordering_reverse (greater_is (event_cmp a b) h k))

pub before_not_itself : (a : Event) → IsBefore a a → ⊥
before_not_itself a h = (let e : event_cmp a a ≡ Equal = tied_itself event_total a in let l : event_cmp a a ≡ Less = less_is _ h in cc)
