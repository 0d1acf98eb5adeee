use Rattle.std.proofs.Common.{arith}
use Rattle.std.proofs.Math.Facts.{Fits-of_lt}
use Rattle.crq_move.proofs.ReadLaws.{stood_event, source_fits, now_time, now_source, now_number, now_load}
use Rattle.crq_move.proofs.reads.read_word.Goals as goal

pub overflow_cast-result-in-3 : goal.overflow_cast-result-in-3
overflow_cast-result-in-3 c = let on = c.requires.stands in let s = c.read_step-word in Fits-of_lt (source_fits on.0 s.result c.args.place (stood_event c.args.table.now c.args.pass.now c.args.row on.0 c.requires.of on.1) (s.ensures.word on.0 on.1) c.in-3.is)

pub returns-in-2-clause-read : goal.returns-in-2-clause-read
returns-in-2-clause-read c e on is = let s = c.read_step-word in now_time c.args.read e s.result c.args.place (stood_event c.args.table.now c.args.pass.now c.args.row e c.requires.of on) (s.ensures.word e on) is c.in-2.is

pub returns-in-3-clause-read : goal.returns-in-3-clause-read
returns-in-3-clause-read c e on is = let s = c.read_step-word in now_source c.args.read e s.result c.args.place (stood_event c.args.table.now c.args.pass.now c.args.row e c.requires.of on) (s.ensures.word e on) is c.in-3.is

pub returns-in-4-clause-read : goal.returns-in-4-clause-read
returns-in-4-clause-read c e on is = let s = c.read_step-word in now_number c.args.read e s.result c.args.place (stood_event c.args.table.now c.args.pass.now c.args.row e c.requires.of on) (s.ensures.word e on) is c.in-4.is

pub returns-in_default-clause-read : goal.returns-in_default-clause-read
returns-in_default-clause-read c e on is = let s = c.read_step-word in now_load c.args.read e s.result c.args.place (stood_event c.args.table.now c.args.pass.now c.args.row e c.requires.of on) (s.ensures.word e on) is (omega (arith, c.requires.place, c.in_default))
