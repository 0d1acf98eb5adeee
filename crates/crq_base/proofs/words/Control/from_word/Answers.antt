use Rattle.std.proofs.Common.{◌/◌, ◌%◌, ◌^◌, arith}
use Rattle.crq_base.proofs.WordLaws.{bit_flag, control_read}
use Rattle.crq_base.proofs.words.Control.from_word.Goals as goal

pub returns : goal.returns
returns c = control_read c.args.word _ c.requires (bit_flag (c.args.word / 2 ^ 18 % 2) (omega arith))
