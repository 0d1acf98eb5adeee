use Rattle.std.proofs.Common.{◌≤◌, length, arith}
use Rattle.std.proofs.lemmas.List.{length-take-le}
use Rattle.crq_reader.proofs.wording.WordDisplay.fmt.Goals as goal

pub slice_bounds-front-end : goal.slice_bounds-front-end
slice_bounds-front-end g c =
    let long : 64 ≤ length c.as_bytes-bytes.result.now = omega arith in
    omega (arith, length-take-le 64 c.as_bytes-bytes.result.now long)
