use Rattle.std.proofs.Common.{◌≡◌, sym, arith}
use Rattle.crq_list.proofs.Heads.{rank_time, rank_source, rank_number, rank_rows, same_test}
use Rattle.crq_list.proofs.take.comes_before.Goals as goal

pub returns-then-a-b : goal.returns-then-a-b
returns-then-a-b c = let a = c.args.a.now in let b = c.args.b.now in let ne : ¬ (a.event.time ≡ b.event.time) = c.if-a-b.true in let p = c.requires.first in let q = c.requires.second in
    same_test a.event.time b.event.time _ _ (rank_time a.event b.event a.row b.row p.0 p.1) (λ high. let low = rank_time b.event a.event b.row a.row q.0 q.1 (omega arith) in omega arith)

pub returns-then-a-b-2 : goal.returns-then-a-b-2
returns-then-a-b-2 c = let a = c.args.a.now in let b = c.args.b.now in let ne : ¬ (a.event.src ≡ b.event.src) = c.if-a-b-2.true in let same = c.if-a-b.false in let p = c.requires.first in let q = c.requires.second in
    same_test a.event.src b.event.src _ _ (rank_source a.event b.event a.row b.row p.0 p.1 same) (λ high. let low = rank_source b.event a.event b.row a.row q.0 q.1 (sym same) (omega arith) in omega arith)

pub returns-then-a-b-3 : goal.returns-then-a-b-3
returns-then-a-b-3 c = let a = c.args.a.now in let b = c.args.b.now in let ne : ¬ (a.event.seq ≡ b.event.seq) = c.if-a-b-3.true in let same = c.if-a-b.false in let src = c.if-a-b-2.false in let p = c.requires.first in let q = c.requires.second in
    same_test a.event.seq b.event.seq _ _ (rank_number a.event b.event a.row b.row p.1 same src) (λ high. let low = rank_number b.event a.event b.row a.row q.1 (sym same) (sym src) (omega arith) in omega arith)

pub returns : goal.returns
returns c = let a = c.args.a.now in let b = c.args.b.now in let h = rank_rows a.event b.event a.row b.row c.if-a-b.false c.if-a-b-2.false c.if-a-b-3.false in same_test a.row b.row _ _ h.0 h.1
