-- The frame laws of steps that move the table. A step that changes only the components of one concern keeps all parts that read none of them as they stand.
use Rattle.std.proofs.Common.{ℕ, Option}
use Rattle.crq_base.specs.declared.words.Link.{Link}
use Rattle.crq_base.specs.declared.words.Control.{Control}
use Rattle.crq_base.specs.declared.words.Pin.{Pin}
use Rattle.crq_rule.specs.declared.view.Help.{Help}
use Rattle.crq_rule.specs.Core.{Core}
use Rattle.crq_rule.specs.Parts.{Spelled, Finds, Chains}
use Rattle.crq_rule.specs.ListParts.{Sizes, Dues, Heads, Sorted, Marks, Standing, Copying, Naming}
use Rattle.crq_rule.specs.Steady.{Steady}
use Rattle.crq_rule.specs.HistoryParts.{Walkers}
use Rattle.crq_rule.specs.Bounds.{Bounds}
use Rattle.crq_rule.specs.Helping.{Helps}
use Rattle.crq_rule.specs.Copies.{Bare}
use Rattle.crq_rule.specs.Ending.{Ends}
use Rattle.crq_rule.specs.Invariant.{present_of, takes_of, ending_of, Inv}

-- heads, and what helpers know of them
pub frame_heads : (c : Core) (head : ℕ → Link) (help : ℕ → Option Help) → Inv c
    → Spelled c.start.layout c.words.control c.words.current c.words.pin head c.words.link c.words.twin c.words.event
    → Chains head c.words.link c.words.twin c.chain
    → Sizes c.start c.words.control c.shape head c.words.link c.holding
    → Heads c.words.control c.shape head
    → Sorted c.shape head c.words.link c.words.event c.chain
    → Marks c.start.layout c.words.control head c.words.link c.words.twin c.holding
    → Standing c.start.layout.workers head c.words.link c.words.twin c.words.event c.rows
    → Copying c.start.layout.workers head c.words.link c.words.twin c.words.event c.old
    → Naming c.start.layout head c.words.link c.words.event c.named c.holding
    → Helps c.start.layout.workers c.words.control head c.found help
    → Bare c.words.control c.shape head c.chain
    → Ends (record (ending_of c) { head = head; help = help })
    → Inv (record c { words = record c.words { head = head }; help = help })
frame_heads c head help inv spelled chains sizes heads sorted marks standing copying naming helps bare ends = record {
  spelled = spelled;
  reading = inv.reading;
  finds = inv.finds;
  guards = inv.guards;
  holders = inv.holders;
  cutting = inv.cutting;
  stamps = inv.stamps;
  chains = chains;
  cover = inv.cover;
  sizes = sizes;
  dues = inv.dues;
  steady = inv.steady;
  heads = heads;
  sorted = sorted;
  marks = marks;
  standing = standing;
  copying = copying;
  lanes = inv.lanes;
  writing = inv.writing;
  naming = naming;
  carriers = inv.carriers;
  told = inv.told;
  numbers = inv.numbers;
  settling = inv.settling;
  walkers = inv.walkers;
  ahead = inv.ahead;
  bounds = inv.bounds;
  scarce = inv.scarce;
  refusals = inv.refusals;
  swept = inv.swept;
  helps = helps;
  copies = inv.copies;
  rooms = inv.rooms;
  bare = bare;
  unlinked = inv.unlinked;
  ends = ends;
}

-- the pin
pub frame_pin : (c : Core) (pin : Pin) → Inv c
    → Spelled c.start.layout c.words.control c.words.current pin c.words.head c.words.link c.words.twin c.words.event
    → Bounds c.start c.words.control c.words.current pin c.history c.settling c.permit
    → Ends (record (ending_of c) { pin = pin })
    → Inv (record c { words = record c.words { pin = pin } })
frame_pin c pin inv spelled bounds ends = record {
  spelled = spelled;
  reading = inv.reading;
  finds = inv.finds;
  guards = inv.guards;
  holders = inv.holders;
  cutting = inv.cutting;
  stamps = inv.stamps;
  chains = inv.chains;
  cover = inv.cover;
  sizes = inv.sizes;
  dues = inv.dues;
  steady = inv.steady;
  heads = inv.heads;
  sorted = inv.sorted;
  marks = inv.marks;
  standing = inv.standing;
  copying = inv.copying;
  lanes = inv.lanes;
  writing = inv.writing;
  naming = inv.naming;
  carriers = inv.carriers;
  told = inv.told;
  numbers = inv.numbers;
  settling = inv.settling;
  walkers = inv.walkers;
  ahead = inv.ahead;
  bounds = bounds;
  scarce = inv.scarce;
  refusals = inv.refusals;
  swept = inv.swept;
  helps = inv.helps;
  copies = inv.copies;
  rooms = inv.rooms;
  bare = inv.bare;
  unlinked = inv.unlinked;
  ends = ends;
}

-- the control word
pub frame_control : (c : Core) (control : Control) → Inv c
    → Spelled c.start.layout control c.words.current c.words.pin c.words.head c.words.link c.words.twin c.words.event
    → Finds c.start control c.shape c.words.current c.found c.sight
    → Sizes c.start control c.shape c.words.head c.words.link c.holding
    → Dues c.start.layout.workers control c.shape c.settling c.copying c.named
    → Steady c.start control c.words.link c.holding c.named
    → Heads control c.shape c.words.head
    → Marks c.start.layout control c.words.head c.words.link c.words.twin c.holding
    → Walkers (record (present_of c) { generation = control.generation }) (takes_of c) c.words.link c.words.event
    → Bounds c.start control c.words.current c.words.pin c.history c.settling c.permit
    → Helps c.start.layout.workers control c.words.head c.found c.help
    → Bare control c.shape c.words.head c.chain
    → Ends (record (ending_of c) { control = control })
    → Inv (record c { words = record c.words { control = control } })
frame_control c control inv spelled finds sizes dues steady heads marks walkers bounds helps bare ends = record {
  spelled = spelled;
  reading = inv.reading;
  finds = finds;
  guards = inv.guards;
  holders = inv.holders;
  cutting = inv.cutting;
  stamps = inv.stamps;
  chains = inv.chains;
  cover = inv.cover;
  sizes = sizes;
  dues = dues;
  steady = steady;
  heads = heads;
  sorted = inv.sorted;
  marks = marks;
  standing = inv.standing;
  copying = inv.copying;
  lanes = inv.lanes;
  writing = inv.writing;
  naming = inv.naming;
  carriers = inv.carriers;
  told = inv.told;
  numbers = inv.numbers;
  settling = inv.settling;
  walkers = walkers;
  ahead = inv.ahead;
  bounds = bounds;
  scarce = inv.scarce;
  refusals = inv.refusals;
  swept = inv.swept;
  helps = helps;
  copies = inv.copies;
  rooms = inv.rooms;
  bare = bare;
  unlinked = inv.unlinked;
  ends = ends;
}
