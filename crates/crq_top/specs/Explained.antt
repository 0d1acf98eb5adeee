-- What an ending says in words, for a person.
use Rattle.std.specs.Prelude.{ℕ, ◌+◌, ◌*◌, List, [], ◌++◌, Option, Some, None, slice_index_or, codes, if◌then◌else◌, nat_eq}
use Rattle.std.specs.Fmt.{decimal}
use Rattle.std.specs.List.{flat_map}
use Rattle.crq_reader.specs.Wording.{byte_shown, model_fault_words}
use Rattle.crq_top.specs.Commands.{range_of}
use Rattle.crq_top.specs.declared.ending.Ending.{Ending}
use Rattle.crq_top.specs.declared.ending.Ending.TheVariants.{Ok, Usage, Model as NoModel, Memory, Read, Write, Long, Events as MoreEvents, Rows as FewRows}
use Rattle.crq_top.specs.declared.explanation.Explanation.{Explanation}
use Rattle.crq_top.specs.declared.forms.Misfit.{Misfit}
use Rattle.crq_top.specs.declared.forms.Misfit.TheVariants.{NoCommand, Unknown, Missing, Unfit, Extra}
use Rattle.crq_top.specs.declared.forms.Parameter.{Parameter}
use Rattle.crq_top.specs.declared.forms.Parameter.TheVariants.{Model, Workers, Rows, Events, Seed, Objects, Population}

abbrev pub parameter_name : Parameter → List ℕ
parameter_name Model = codes "MODEL"
parameter_name Workers = codes "WORKERS"
parameter_name Rows = codes "ROWS"
parameter_name Events = codes "EVENTS"
parameter_name Seed = codes "SEED"
parameter_name Objects = codes "OBJECTS"
parameter_name Population = codes "POPULATION"

-- a word of the command line as it may be printed
abbrev pub shown : List ℕ → List ℕ
shown word = flat_map byte_shown word

-- the forms of the commands
abbrev pub the_commands : List ℕ
the_commands = codes "the commands are: run MODEL WORKERS ROWS EVENTS, check MODEL, serial MODEL EVENTS, gen SEED OBJECTS POPULATION"

-- what may stand for a parameter
abbrev pub range_words : Option (ℕ × ℕ) → List ℕ
range_words None = codes "the name of a file"
range_words (Some r) = if nat_eq r.0 r.1 then decimal r.0 else decimal r.0 ++ (codes " to " ++ decimal r.1)

-- the first thing that is wrong with the words of the command line
abbrev pub misfit_words : ℕ → Misfit → List ℕ
misfit_words most NoCommand = codes "there is no command; " ++ the_commands
misfit_words most (Unknown word) = codes "no command \"" ++ (shown word.now ++ (codes "\"; " ++ the_commands))
misfit_words most (Missing parameter) = parameter_name parameter ++ (codes " is missing; it has to be " ++ range_words (range_of most parameter))
misfit_words most (Unfit parameter word) = parameter_name parameter ++ (codes " is " ++ (shown word.now ++ (codes "; it has to be " ++ range_words (range_of most parameter))))
misfit_words most (Extra word) = codes "\"" ++ (shown word.now ++ codes "\" is one word too many")

-- words that fit, asked of the other call
abbrev pub usage_words : ℕ → Option Misfit → List ℕ
usage_words most None = the_commands
usage_words most (Some misfit) = misfit_words most misfit

-- what is said of the model with this name
abbrev pub of_model : List ℕ → List ℕ → List ℕ
of_model name said = shown name ++ (codes ": " ++ said)

-- the rows are too few for the events that are pending after a window, and at least so many would do
abbrev pub row_words : ℕ → ℕ → ℕ → List ℕ
row_words window pending least =
    codes "ROWS is too low for the " ++ (decimal pending ++ (codes " events that are pending after window " ++ (decimal window ++ (codes "; it has to be at least " ++ decimal least))))

-- two for each of them, and two
abbrev pub few_rows_words : ℕ → ℕ → List ℕ
few_rows_words window pending = row_words window pending (2 * pending + 2)

abbrev pub ending_words : ℕ → List ℕ → Option Misfit → Ending → List ℕ
ending_words most name misfit Ok = codes "done"
ending_words most name misfit Usage = usage_words most misfit
ending_words most name misfit (NoModel fault) = of_model name (model_fault_words fault)
ending_words most name misfit Memory = codes "memory was refused, and nothing was printed"
ending_words most name misfit Read = of_model name (codes "the file can't be read")
ending_words most name misfit Write = codes "the output couldn't be written whole"
ending_words most name misfit Long = of_model name (codes "the file has more than 16777216 bytes")
ending_words most name misfit (MoreEvents window) = of_model name (codes "the run has more events than EVENTS; the first one past them is in window " ++ decimal window)
ending_words most name misfit (FewRows window pending) = of_model name (few_rows_words window pending)

-- the second word, or no text where there is none
abbrev pub model_name : List (List ℕ) → List ℕ
model_name words = slice_index_or words 1 []

-- the line that explains an ending, without its newline
abbrev pub explained : Explanation → List ℕ
explained e = codes "crq: " ++ ending_words e.most e.model.now e.misfit e.ending.now
