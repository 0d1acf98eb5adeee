use Rattle.std.proofs.Common.{arith}
use Rattle.crq_printer.specs.Parts.{NoStep}
use Rattle.crq_printer.proofs.FieldLaws.{if_none}
use Rattle.crq_printer.proofs.StepFields.{behind_src, behind_seq, behind_load, behind_count, time_read, src_read, seq_read, load_read, count_read}
use Rattle.crq_printer.proofs.parts.read_step.Goals as goal

pub returns-in_err-src-clause-none : goal.returns-in_err-src-clause-none
returns-in_err-src-clause-none c =
    if_none _ (NoStep c.args.number c.args.text.now) (λ s back is e.
    let rest_time = time_read c.args.number s back is c.args.text.now c.in_ok-time.text.now c.in_ok-time.time _ (omega arith) c.in_ok-time.ensures.most c.in_ok-time.ensures.parts e in
    c.in_err-src.ensures.none s.event.src (behind_src s back) is.src rest_time)

pub returns-in_err-seq-clause-none : goal.returns-in_err-seq-clause-none
returns-in_err-seq-clause-none c =
    if_none _ (NoStep c.args.number c.args.text.now) (λ s back is e.
    let rest_time = time_read c.args.number s back is c.args.text.now c.in_ok-time.text.now c.in_ok-time.time _ (omega arith) c.in_ok-time.ensures.most c.in_ok-time.ensures.parts e in
    let rest_src = src_read c.args.number s back is c.in_ok-time.text.now c.in_ok-src.text.now c.in_ok-src.src _ (omega arith) c.in_ok-src.ensures.most c.in_ok-src.ensures.parts rest_time in
    c.in_err-seq.ensures.none s.event.seq (behind_seq s back) (omega (arith, is.seq)) rest_src)

pub returns-in_err-load-clause-none : goal.returns-in_err-load-clause-none
returns-in_err-load-clause-none c =
    if_none _ (NoStep c.args.number c.args.text.now) (λ s back is e.
    let rest_time = time_read c.args.number s back is c.args.text.now c.in_ok-time.text.now c.in_ok-time.time _ (omega arith) c.in_ok-time.ensures.most c.in_ok-time.ensures.parts e in
    let rest_src = src_read c.args.number s back is c.in_ok-time.text.now c.in_ok-src.text.now c.in_ok-src.src _ (omega arith) c.in_ok-src.ensures.most c.in_ok-src.ensures.parts rest_time in
    let rest_seq = seq_read c.args.number s back is c.in_ok-src.text.now c.in_ok-seq.text.now c.in_ok-seq.seq _ (omega arith) c.in_ok-seq.ensures.most c.in_ok-seq.ensures.parts rest_src in
    c.in_err-load.ensures.none s.event.load (behind_load s back) (omega (arith, is.load)) rest_seq)

pub returns-in_err-count-clause-none : goal.returns-in_err-count-clause-none
returns-in_err-count-clause-none c =
    if_none _ (NoStep c.args.number c.args.text.now) (λ s back is e.
    let rest_time = time_read c.args.number s back is c.args.text.now c.in_ok-time.text.now c.in_ok-time.time _ (omega arith) c.in_ok-time.ensures.most c.in_ok-time.ensures.parts e in
    let rest_src = src_read c.args.number s back is c.in_ok-time.text.now c.in_ok-src.text.now c.in_ok-src.src _ (omega arith) c.in_ok-src.ensures.most c.in_ok-src.ensures.parts rest_time in
    let rest_seq = seq_read c.args.number s back is c.in_ok-src.text.now c.in_ok-seq.text.now c.in_ok-seq.seq _ (omega arith) c.in_ok-seq.ensures.most c.in_ok-seq.ensures.parts rest_src in
    let rest_load = load_read c.args.number s back is c.in_ok-seq.text.now c.in_ok-load.text.now c.in_ok-load.load _ (omega arith) c.in_ok-load.ensures.most c.in_ok-load.ensures.parts rest_seq in
    c.in_err-count.ensures.none s.count (behind_count s back) (omega (arith, is.count)) rest_load)

pub returns-in_err-word-clause-none : goal.returns-in_err-word-clause-none
returns-in_err-word-clause-none c =
    if_none _ (NoStep c.args.number c.args.text.now) (λ s back is e.
    let rest_time = time_read c.args.number s back is c.args.text.now c.in_ok-time.text.now c.in_ok-time.time _ (omega arith) c.in_ok-time.ensures.most c.in_ok-time.ensures.parts e in
    let rest_src = src_read c.args.number s back is c.in_ok-time.text.now c.in_ok-src.text.now c.in_ok-src.src _ (omega arith) c.in_ok-src.ensures.most c.in_ok-src.ensures.parts rest_time in
    let rest_seq = seq_read c.args.number s back is c.in_ok-src.text.now c.in_ok-seq.text.now c.in_ok-seq.seq _ (omega arith) c.in_ok-seq.ensures.most c.in_ok-seq.ensures.parts rest_src in
    let rest_load = load_read c.args.number s back is c.in_ok-seq.text.now c.in_ok-load.text.now c.in_ok-load.load _ (omega arith) c.in_ok-load.ensures.most c.in_ok-load.ensures.parts rest_seq in
    let rest_count = count_read c.args.number s back is c.in_ok-load.text.now c.in_ok-count.text.now c.in_ok-count.count _ (omega arith) c.in_ok-count.ensures.most c.in_ok-count.ensures.parts rest_load in
    c.in_err-word.ensures.none s.word back (omega (arith, is.word)) rest_count)
