-- The frame laws. A step that changes only the components of one concern keeps all parts that read none of them as they stand.
use Rattle.std.proofs.Common.{ℕ, Bool, List, Option}
use Rattle.crq_base.specs.declared.event.Event.{Event}
use Rattle.crq_base.specs.declared.words.Current.{Current}
use Rattle.crq_rule.specs.declared.view.Guard.{Guard}
use Rattle.crq_rule.specs.declared.view.Tick.{Tick}
use Rattle.crq_rule.specs.declared.view.CutRow.{CutRow}
use Rattle.crq_rule.specs.declared.view.Base.{Base}
use Rattle.crq_rule.specs.declared.view.Stand.{Stand}
use Rattle.crq_rule.specs.declared.view.Made.{Made}
use Rattle.crq_rule.specs.declared.view.Walk.{Walk}
use Rattle.crq_rule.specs.Core.{Core, Holding}
use Rattle.crq_rule.specs.Parts.{ground_of, footings, Spelled, Reading, Finds, Guards, Holders, Cutting, Stamps, Cover}
use Rattle.crq_rule.specs.ListParts.{Sizes, Dues, Marks, Standing, Copying, Lanes, Writing, Naming}
use Rattle.crq_rule.specs.Steady.{Steady}
use Rattle.crq_rule.specs.HistoryParts.{Carriers, Told, Numbers, Settling, Walkers}
use Rattle.crq_rule.specs.Bounds.{Bounds}
use Rattle.crq_rule.specs.Helping.{Helps}
use Rattle.crq_rule.specs.ScarceParts.{Scarce, Refusals, Swept}
use Rattle.crq_rule.specs.Ahead.{Ahead}
use Rattle.crq_rule.specs.Copies.{Copies, Unlinked}
use Rattle.crq_rule.specs.Ending.{Ends}
use Rattle.crq_rule.specs.Invariant.{present_of, takes_of, rows_of_core, ending_of, Inv}
use Rattle.crq_rule.specs.Kinds.{after_made}

-- the epoch word, announcements, guards, ticks, epochs read, tags, bases, positions and walks
pub frame_guards : (c : Core) (e : ℕ) (announced : ℕ → ℕ) (epochs : ℕ → List ℕ) (guard : ℕ → Guard) (tick : ℕ → Tick) (cut : ℕ → Option CutRow) (base : ℕ → Option Base) (rows : ℕ → List Stand) (old : ℕ → Option Stand) (walk : ℕ → Option Walk) → Inv c
    → Reading c.start.layout.workers e epochs tick cut
    → Guards c.start.layout.workers e announced guard tick
    → Holders c.start.layout c.hand cut c.chain c.holding
    → Cutting c.start.layout.workers guard cut
    → Stamps c.start.layout e c.words.stamp c.ripening c.holding
    → Cover (record (ground_of c) { guard = guard; footing = footings rows old c.copying }) cut c.holding
    → Standing c.start.layout.workers c.words.head c.words.link c.words.twin c.words.event rows
    → Copying c.start.layout.workers c.words.head c.words.link c.words.twin c.words.event old
    → Lanes c.start.layout c.shape (record (ground_of c) { guard = guard; footing = footings rows old c.copying }) c.words.event
    → Walkers (present_of c) (record (takes_of c) { walk = walk; rows = rows }) c.words.link c.words.event
    → Scarce c.start.layout e c.history base guard c.holding
    → Copies (rows_of_core c) (record (ground_of c) { guard = guard; footing = footings rows old c.copying })
    → Unlinked c.start.layout.workers c.history old
    → Ends (record (ending_of c) { walk = walk })
    → Inv (record c { words = record c.words { epoch = e; announced = announced }; epochs = epochs; guard = guard; tick = tick; cut = cut; base = base; rows = rows; old = old; walk = walk })
frame_guards c e announced epochs guard tick cut base rows old walk inv reading guards holders cutting stamps cover standing copying lanes walkers scarce copies unlinked ends = record {
  spelled = inv.spelled;
  reading = reading;
  finds = inv.finds;
  guards = guards;
  holders = holders;
  cutting = cutting;
  stamps = stamps;
  chains = inv.chains;
  cover = cover;
  sizes = inv.sizes;
  dues = inv.dues;
  steady = inv.steady;
  heads = inv.heads;
  sorted = inv.sorted;
  marks = inv.marks;
  standing = standing;
  copying = copying;
  lanes = lanes;
  writing = inv.writing;
  naming = inv.naming;
  carriers = inv.carriers;
  told = inv.told;
  numbers = inv.numbers;
  settling = inv.settling;
  walkers = walkers;
  ahead = inv.ahead;
  bounds = inv.bounds;
  scarce = scarce;
  refusals = inv.refusals;
  swept = inv.swept;
  helps = inv.helps;
  copies = copies;
  rooms = inv.rooms;
  bare = inv.bare;
  unlinked = unlinked;
  ends = ends;
}

-- stamps, rows in hand, rows looked at, cut rows, bases, refusals and holders
pub frame_rows : (c : Core) (stamp : ℕ → ℕ) (hand : ℕ → List ℕ) (ripening : ℕ → List (ℕ × ℕ)) (cut : ℕ → Option CutRow) (base : ℕ → Option Base) (refused : ℕ → List Event) (holding : ℕ → Holding) → Inv c
    → Reading c.start.layout.workers c.words.epoch c.epochs c.tick cut
    → Holders c.start.layout hand cut c.chain holding
    → Cutting c.start.layout.workers c.guard cut
    → Stamps c.start.layout c.words.epoch stamp ripening holding
    → Cover (ground_of c) cut holding
    → Sizes c.start c.words.control c.shape c.words.head c.words.link holding
    → Steady c.start c.words.control c.words.link holding c.named
    → Marks c.start.layout c.words.control c.words.head c.words.link c.words.twin holding
    → Writing c.start.layout.workers c.words.link c.words.twin c.words.event hand c.written
    → Naming c.start.layout c.words.head c.words.link c.words.event c.named holding
    → Carriers c.start.layout c.history c.words.link c.words.twin c.words.event holding
    → Scarce c.start.layout c.words.epoch c.history base c.guard holding
    → Refusals c.start.layout.workers c.history refused
    → Copies (record (rows_of_core c) { holding = holding }) (ground_of c)
    → Inv (record c { words = record c.words { stamp = stamp }; hand = hand; ripening = ripening; cut = cut; base = base; refused = refused; holding = holding })
frame_rows c stamp hand ripening cut base refused holding inv reading holders cutting stamps cover sizes steady marks writing naming carriers scarce refusals copies = record {
  spelled = inv.spelled;
  reading = reading;
  finds = inv.finds;
  guards = inv.guards;
  holders = holders;
  cutting = cutting;
  stamps = stamps;
  chains = inv.chains;
  cover = cover;
  sizes = sizes;
  dues = inv.dues;
  steady = steady;
  heads = inv.heads;
  sorted = inv.sorted;
  marks = marks;
  standing = inv.standing;
  copying = inv.copying;
  lanes = inv.lanes;
  writing = writing;
  naming = naming;
  carriers = carriers;
  told = inv.told;
  numbers = inv.numbers;
  settling = inv.settling;
  walkers = inv.walkers;
  ahead = inv.ahead;
  bounds = inv.bounds;
  scarce = scarce;
  refusals = refusals;
  swept = inv.swept;
  helps = inv.helps;
  copies = copies;
  rooms = inv.rooms;
  bare = inv.bare;
  unlinked = inv.unlinked;
  ends = inv.ends;
}

-- the state c, with the history, what each caller owes to settle, and what it found and knows of it, as in d
abbrev with_entries : Core → Core → Core
with_entries c d = record c {
  history = d.history;
  deal = d.deal;
  begun = d.begun;
  read = d.read;
  own = d.own;
  base = d.base;
  settling = d.settling;
  permit = d.permit;
  found = d.found;
  sight = d.sight;
  walk = d.walk;
  help = d.help;
  sweep = d.sweep;
  clean = d.clean;
  refused = d.refused;
  told = d.told;
}

-- current, the history and what is known of it
pub frame_moved : (c d : Core) (current : Current) → Inv c
    → Spelled c.start.layout c.words.control current c.words.pin c.words.head c.words.link c.words.twin c.words.event
    → Finds c.start c.words.control c.shape current d.found d.sight
    → Dues c.start.layout.workers c.words.control c.shape d.settling c.copying c.named
    → Steady c.start c.words.control c.words.link c.holding c.named
    → Carriers c.start.layout d.history c.words.link c.words.twin c.words.event c.holding
    → Told c.start.layout.workers d.history d.deal d.own d.begun
    → Numbers c.start.layout.workers d.history d.told
    → Settling c.start.layout.workers d.history d.settling
    → Walkers (record (present_of (with_entries c d)) { current = current }) (takes_of (with_entries c d)) c.words.link c.words.event
    → Ahead d.history current
    → Scarce c.start.layout c.words.epoch d.history d.base c.guard c.holding
    → Refusals c.start.layout.workers d.history d.refused
    → Swept c.start.layout d.history c.words.event c.chain d.sweep d.clean
    → Bounds c.start c.words.control current c.words.pin d.history d.settling d.permit
    → Helps c.start.layout.workers c.words.control c.words.head d.found d.help
    → Unlinked c.start.layout.workers d.history c.old
    → Ends (record (ending_of (with_entries c d)) { current = current })
    → Inv (with_entries (record c { words = record c.words { current = current } }) d)
frame_moved c d current inv spelled finds dues steady carriers told numbers settling walkers ahead scarce refusals swept bounds helps unlinked ends = record {
  spelled = spelled;
  reading = inv.reading;
  finds = finds;
  guards = inv.guards;
  holders = inv.holders;
  cutting = inv.cutting;
  stamps = inv.stamps;
  chains = inv.chains;
  cover = inv.cover;
  sizes = inv.sizes;
  dues = dues;
  steady = steady;
  heads = inv.heads;
  sorted = inv.sorted;
  marks = inv.marks;
  standing = inv.standing;
  copying = inv.copying;
  lanes = inv.lanes;
  writing = inv.writing;
  naming = inv.naming;
  carriers = carriers;
  told = told;
  numbers = numbers;
  settling = settling;
  walkers = walkers;
  ahead = ahead;
  bounds = bounds;
  scarce = scarce;
  refusals = refusals;
  swept = swept;
  helps = helps;
  copies = inv.copies;
  rooms = inv.rooms;
  bare = inv.bare;
  unlinked = unlinked;
  ends = ends;
}

-- current stays
pub frame_entry : (c d : Core) → Inv c
    → Finds c.start c.words.control c.shape c.words.current d.found d.sight
    → Dues c.start.layout.workers c.words.control c.shape d.settling c.copying c.named
    → Steady c.start c.words.control c.words.link c.holding c.named
    → Carriers c.start.layout d.history c.words.link c.words.twin c.words.event c.holding
    → Told c.start.layout.workers d.history d.deal d.own d.begun
    → Numbers c.start.layout.workers d.history d.told
    → Settling c.start.layout.workers d.history d.settling
    → Walkers (present_of (with_entries c d)) (takes_of (with_entries c d)) c.words.link c.words.event
    → Ahead d.history c.words.current
    → Scarce c.start.layout c.words.epoch d.history d.base c.guard c.holding
    → Refusals c.start.layout.workers d.history d.refused
    → Swept c.start.layout d.history c.words.event c.chain d.sweep d.clean
    → Bounds c.start c.words.control c.words.current c.words.pin d.history d.settling d.permit
    → Helps c.start.layout.workers c.words.control c.words.head d.found d.help
    → Unlinked c.start.layout.workers d.history c.old
    → Ends (ending_of (with_entries c d))
    → Inv (with_entries c d)
frame_entry c d inv finds dues steady carriers told numbers settling walkers ahead scarce refusals swept bounds helps unlinked ends = frame_moved c d c.words.current inv inv.spelled finds dues steady carriers told numbers settling walkers ahead scarce refusals swept bounds helps unlinked ends

-- the state c, with what each caller found, and the takes that walk, as in d
abbrev with_found : Core → Core → Core
with_found c d = record c { read = d.read; permit = d.permit; found = d.found; sight = d.sight; walk = d.walk; help = d.help; told = d.told }

-- what a caller found of the control word and of current
pub frame_found : (c d : Core) → Inv c
    → Finds c.start c.words.control c.shape c.words.current d.found d.sight
    → Numbers c.start.layout.workers c.history d.told
    → Walkers (present_of c) (takes_of (with_found c d)) c.words.link c.words.event
    → Bounds c.start c.words.control c.words.current c.words.pin c.history c.settling d.permit
    → Helps c.start.layout.workers c.words.control c.words.head d.found d.help
    → Ends (ending_of (with_found c d))
    → Inv (with_found c d)
frame_found c d inv finds numbers walkers bounds helps ends = frame_entry c (with_found c d) inv finds inv.dues inv.steady inv.carriers inv.told numbers inv.settling walkers inv.ahead inv.scarce inv.refusals inv.swept bounds helps inv.unlinked ends

-- current, permits, and the walks of takes
pub frame_current : (c : Core) (current : Current) (permit : ℕ → Bool) (walk : ℕ → Option Walk) → Inv c
    → Spelled c.start.layout c.words.control current c.words.pin c.words.head c.words.link c.words.twin c.words.event
    → Finds c.start c.words.control c.shape current c.found c.sight
    → Walkers (record (present_of c) { current = current }) (record (takes_of c) { walk = walk }) c.words.link c.words.event
    → Ahead c.history current
    → Bounds c.start c.words.control current c.words.pin c.history c.settling permit
    → Ends (record (ending_of c) { current = current; walk = walk })
    → Inv (record c { words = record c.words { current = current }; permit = permit; walk = walk })
frame_current c current permit walk inv spelled finds walkers ahead bounds ends = record {
  spelled = spelled;
  reading = inv.reading;
  finds = finds;
  guards = inv.guards;
  holders = inv.holders;
  cutting = inv.cutting;
  stamps = inv.stamps;
  chains = inv.chains;
  cover = inv.cover;
  sizes = inv.sizes;
  dues = inv.dues;
  steady = inv.steady;
  heads = inv.heads;
  sorted = inv.sorted;
  marks = inv.marks;
  standing = inv.standing;
  copying = inv.copying;
  lanes = inv.lanes;
  writing = inv.writing;
  naming = inv.naming;
  carriers = inv.carriers;
  told = inv.told;
  numbers = inv.numbers;
  settling = inv.settling;
  walkers = walkers;
  ahead = ahead;
  bounds = bounds;
  scarce = inv.scarce;
  refusals = inv.refusals;
  swept = inv.swept;
  helps = inv.helps;
  copies = inv.copies;
  rooms = inv.rooms;
  bare = inv.bare;
  unlinked = inv.unlinked;
  ends = ends;
}

-- the list of steps made, which no part reads
pub frame_made : (c : Core) (j : ℕ) (m : Made) → Inv c → Inv (after_made c j m)
frame_made c j m inv = record {
  spelled = inv.spelled;
  reading = inv.reading;
  finds = inv.finds;
  guards = inv.guards;
  holders = inv.holders;
  cutting = inv.cutting;
  stamps = inv.stamps;
  chains = inv.chains;
  cover = inv.cover;
  sizes = inv.sizes;
  dues = inv.dues;
  steady = inv.steady;
  heads = inv.heads;
  sorted = inv.sorted;
  marks = inv.marks;
  standing = inv.standing;
  copying = inv.copying;
  lanes = inv.lanes;
  writing = inv.writing;
  naming = inv.naming;
  carriers = inv.carriers;
  told = inv.told;
  numbers = inv.numbers;
  settling = inv.settling;
  walkers = inv.walkers;
  ahead = inv.ahead;
  bounds = inv.bounds;
  scarce = inv.scarce;
  refusals = inv.refusals;
  swept = inv.swept;
  helps = inv.helps;
  copies = inv.copies;
  rooms = inv.rooms;
  bare = inv.bare;
  unlinked = inv.unlinked;
  ends = inv.ends;
}
