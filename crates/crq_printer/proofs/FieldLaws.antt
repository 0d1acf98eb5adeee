-- Fields of a line, each found by the byte after it.
use Rattle.std.proofs.Common.{◌≡◌, ℕ, zero, suc, ◌+◌, ◌<◌, ◌≤◌, ◌^◌, Bool, true, false, not, List, [], ◌∷◌, ◌++◌, length, take, get_or, refl, sym, ap, ◌∙◌, arith}
use Rattle.std.specs.Prelude.{◌&&◌, ◌==◌, nat_lt, nat_le, codes, Option, Some, None, IfNone}
use Rattle.std.specs.Fmt.{decimal}
use Rattle.std.specs.List.{list_all}
use Rattle.std.specs.Str.{IsAscii}
use Rattle.std.specs.Str.Parse.{AllDigits}
use Rattle.std.proofs.lemmas.List.{take_more, take_all}
use Rattle.std.proofs.lemmas.Bool.Decides.{nat_tests}
use Rattle.std.proofs.lemmas.Fmt.{decimal_is_IsNumeral, decimal_is_IsNumeral_wide, decimal_injective}
use Rattle.std.proofs.lemmas.Str.Parse.{digit_from_value}
use Rattle.crq_sim.specs.Names.{is_name, name_byte}
use Rattle.crq_sim.specs.declared.model.BehaviourName.{BehaviourName}
use Rattle.crq_sim.specs.declared.model.BehaviourName.TheVariants.{Relay, Phold, Station, Fan, Sink}
use Rattle.crq_printer.specs.Fields.{Lacks}
use Rattle.crq_sim.specs.Kinds.{kind_word}

-- a byte that isn't there doesn't split
pub no_split : (b : ℕ) (front back : List ℕ) → Lacks b (front ++ b ∷ back) → ⊥
no_split b [] back h = h.0 refl
no_split b (c ∷ front) back h = no_split b front back h.1

pub Lacks-push : (b c : ℕ) (bs : List ℕ) → Lacks b bs → (c ≡ b → ⊥) → Lacks b (bs ++ c ∷ [])
Lacks-push b c [] h other = (other, tt)
Lacks-push b c (x ∷ bs) h other = (h.0, Lacks-push b c bs h.1 other)

pub Lacks-more : (b : ℕ) (bs : List ℕ) (i : ℕ) → i < length bs → Lacks b (take i bs) → (get_or bs i 0 ≡ b → ⊥) → Lacks b (take (i + 1) bs)
Lacks-more b bs i lt before other = rw (take_more bs i 0 lt) (Lacks-push b (get_or bs i 0) (take i bs) before other)

-- two fields with the same byte after them are one
pub same_field : (b : ℕ) (xs ys xs' ys' : List ℕ) → Lacks b xs → Lacks b ys → xs ++ b ∷ xs' ≡ ys ++ b ∷ ys' → (xs ≡ ys) × (xs' ≡ ys')
same_field b [] [] xs' ys' hx hy e = (refl, cc)
same_field b [] (y ∷ ys) xs' ys' hx hy e = absurd (hy.0 cc)
same_field b (x ∷ xs) [] xs' ys' hx hy e = absurd (hx.0 cc)
same_field b (x ∷ xs) (y ∷ ys) xs' ys' hx hy e =
    let rest = same_field b xs ys xs' ys' hx.1 hy.1 cc in
    let first : x ≡ y = cc in
    (ap (λ (z : ℕ). z ∷ xs) first ∙ ap (λ (zs : List ℕ). y ∷ zs) rest.0, rest.1)

both : (p q : Bool) → p && q ≡ true → (p ≡ true) × (q ≡ true)
both true q h = (refl, h)
both false q h = absurd (cc)

other_byte : (b c : ℕ) → not (c == b) ≡ true → c ≡ b → ⊥
other_byte b c h e = grind (arith, nat_tests)

pub Lacks-from_test : (b : ℕ) (bs : List ℕ) → list_all (λ c. not (c == b)) bs ≡ true → Lacks b bs
Lacks-from_test b [] h = tt
Lacks-from_test b (c ∷ bs) h = (let parts = both (not (c == b)) (list_all (λ d. not (d == b)) bs) h in (other_byte b c parts.0, Lacks-from_test b bs parts.1))

digits_lack : (b : ℕ) (ds : List ℕ) → b < 48 → AllDigits 10 ds → Lacks b ds
digits_lack b [] low h = tt
digits_lack b (d ∷ ds) low h = (let range = digit_from_value d h.0 in λ e. omega arith, digits_lack b ds low h.1)

pub numeral_lacks : (b n : ℕ) → b < 48 → n < 2 ^ 64 → Lacks b (decimal n)
numeral_lacks b n low small = digits_lack b (decimal n) low (decimal_is_IsNumeral n small).0.1

-- also the sum of many counts
pub sum_lacks : (b n : ℕ) → b < 48 → n < 10 ^ 64 → Lacks b (decimal n)
sum_lacks b n low small = digits_lack b (decimal n) low (decimal_is_IsNumeral_wide n small).0.1

pub same_number : (b m n : ℕ) (xs ys : List ℕ) → b < 48 → m < 2 ^ 64 → n < 2 ^ 64 → decimal m ++ b ∷ xs ≡ decimal n ++ b ∷ ys → (m ≡ n) × (xs ≡ ys)
same_number b m n xs ys low hm hn e =
    let same = same_field b (decimal m) (decimal n) xs ys (numeral_lacks b m low hm) (numeral_lacks b n low hn) e in
    (decimal_injective m n hm hn same.0, same.1)

name_byte_range : (c : ℕ) → name_byte c ≡ true → (45 ≤ c) × (c < 128)
name_byte_range c h = (grind (arith, nat_tests), grind (arith, nat_tests))

name_bytes_lack : (b : ℕ) (bs : List ℕ) → b < 45 → list_all name_byte bs ≡ true → Lacks b bs
name_bytes_lack b [] low h = tt
name_bytes_lack b (c ∷ bs) low h =
    let parts = both (name_byte c) (list_all name_byte bs) h in
    let range = name_byte_range c parts.0 in
    (λ e. omega arith, name_bytes_lack b bs low parts.1)

name_bytes_ascii : (bs : List ℕ) → list_all name_byte bs ≡ true → IsAscii bs
name_bytes_ascii [] h i = omega arith
name_bytes_ascii (c ∷ bs) h zero = (name_byte_range c (both (name_byte c) (list_all name_byte bs) h).0).1
name_bytes_ascii (c ∷ bs) h (suc i) = name_bytes_ascii bs (both (name_byte c) (list_all name_byte bs) h).1 i

name_bytes : (bs : List ℕ) → is_name bs ≡ true → list_all name_byte bs ≡ true
name_bytes bs h = (both (nat_lt 0 (length bs) && nat_le (length bs) 32) (list_all name_byte bs) h).1

pub name_lacks : (b : ℕ) (bs : List ℕ) → b < 45 → is_name bs ≡ true → Lacks b bs
name_lacks b bs low h = name_bytes_lack b bs low (name_bytes bs h)

pub name_ascii : (bs : List ℕ) → is_name bs ≡ true → IsAscii bs
name_ascii bs h = name_bytes_ascii bs (name_bytes bs h)

pub none_found : (b : ℕ) (bs : List ℕ) (i : ℕ) → length bs ≤ i → Lacks b (take i bs) → (front back : List ℕ) → bs ≡ front ++ b ∷ back → ⊥
none_found b bs i le h front back e = no_split b front back (rw e at (rw (take_all i bs le) at h))

-- the field is no numeral
pub number_refused : (b most : ℕ) (text digits rest : List ℕ) → b < 48 → most < 2 ^ 64 → text ≡ digits ++ b ∷ rest → Lacks b digits
    → ((n : ℕ) → n < 2 ^ 64 → digits ≡ decimal n → ⊥) → (n : ℕ) (back : List ℕ) → n ≤ most → text ≡ decimal n ++ b ∷ back → ⊥
number_refused b most text digits rest low small parts first none n back le e =
    none n (omega arith) (same_field b digits (decimal n) rest back first (numeral_lacks b n low (omega arith)) (sym parts ∙ e)).0

-- the field is the numeral of a larger number
pub number_large : (b most m : ℕ) (text digits rest : List ℕ) → b < 48 → m < 2 ^ 64 → most < m → text ≡ digits ++ b ∷ rest → digits ≡ decimal m
    → (n : ℕ) (back : List ℕ) → n ≤ most → text ≡ decimal n ++ b ∷ back → ⊥
number_large b most m text digits rest low small large parts numeral n back le e =
    let same = same_number b m n rest back low small (omega arith) (ap (λ (ds : List ℕ). ds ++ b ∷ rest) (sym numeral) ∙ sym parts ∙ e) in
    omega (arith, same.0)

pub if_none : {X : Type 0} (r : Option X) (P : Type 0) → P → IfNone r P
if_none None P h = h
if_none (Some x) P h = tt

pub kind_lacks : (k : BehaviourName) → Lacks 32 (kind_word k)
kind_lacks Relay = Lacks-from_test 32 (codes "relay") refl
kind_lacks Phold = Lacks-from_test 32 (codes "phold") refl
kind_lacks Station = Lacks-from_test 32 (codes "station") refl
kind_lacks Fan = Lacks-from_test 32 (codes "fan") refl
kind_lacks Sink = Lacks-from_test 32 (codes "sink") refl

kind_is_name : (k : BehaviourName) → is_name (kind_word k) ≡ true
kind_is_name Relay = refl
kind_is_name Phold = refl
kind_is_name Station = refl
kind_is_name Fan = refl
kind_is_name Sink = refl

pub kind_ascii : (k : BehaviourName) → IsAscii (kind_word k)
kind_ascii k = name_ascii (kind_word k) (kind_is_name k)
