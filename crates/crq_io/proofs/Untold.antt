-- Devices that tell nothing of their bytes.
use Rattle.std.proofs.Common.{◌≡◌, ℕ, ◌≤◌, List, length, take, Option, None, Result, Ok, Err, IfOk, OnErr, refl, arith}
use Rattle.std.specs.Global.{Vec}
use Rattle.crq_io.specs.Faults.{one_more, Rose}
use Rattle.crq_io.specs.Told.{Appends, IsPart, IsTold}

-- where nothing is told, any bytes are right
pub ok_untold : {E : Type 0} (r : Result (Vec ℕ) E) (limit : ℕ) → IfOk r (λ bytes. length bytes.items ≤ limit) → IfOk r (λ bytes. (length bytes.items ≤ limit) × IsTold None bytes.items)
ok_untold (Ok bytes) limit h = (h, tt)
ok_untold (Err e) limit h = tt

-- where nothing is told, any appending is right
pub part_untold : {E : Type 0} (r : Result ℕ E) (piece : List ℕ) → IfOk r (λ n. IsPart n piece) → IfOk r (λ n. IsPart n piece × Appends None None (take n piece))
part_untold (Ok n) piece h = (h, refl)
part_untold (Err e) piece h = tt

-- where nothing is told before, nothing is told after
pub err_untold : {E : Type 0} (r : Result ℕ E) → OnErr r (◌≡◌ {A = Option (List ℕ)} None None)
err_untold (Ok n) = tt
err_untold (Err e) = refl

-- one more is a rise
pub err_rose : {E : Type 0} (r : Result ℕ E) (old new : ℕ) → OnErr r (new ≡ one_more old) → OnErr r (Rose old new)
err_rose (Ok n) old new h = tt
err_rose (Err e) old new h = omega (arith, h)
