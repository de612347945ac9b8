-- The exit status and the message of each error that ends a run early.
use Rattle.std.specs.Prelude.{ℕ, List, ◌++◌, codes, decimal}
use Rattle.nm_script_lib.specs.declared.run_error.RunError.{RunError}
use Rattle.nm_script_lib.specs.declared.run_error.RunError.TheVariants.{BadStep, Memory, Input}
use Rattle.nm_script_lib.specs.declared.run_error.RunError.TheVariants.{Output}
use Rattle.nm_script_lib.specs.declared.parse_error.ParseError.{ParseError}
use Rattle.nm_script_lib.specs.declared.parse_error.ParseError.TheVariants.{Memory as UnreadMemory}
use Rattle.nm_script_lib.specs.declared.parse_error.ParseError.TheVariants.{BadStep as UnreadStep}
use Rattle.nm_script_lib.specs.declared.input_error.InputError.{InputError}
use Rattle.nm_script_lib.specs.declared.input_error.InputError.TheVariants.{Memory as UnheardMemory}
use Rattle.nm_script_lib.specs.declared.input_error.InputError.TheVariants.{Input as UnheardInput}
use Rattle.nm_script_lib.specs.Printing.{ended_line}

-- The exit status.
abbrev pub status_of : RunError → ℕ
status_of (BadStep line) = 2
status_of Memory = 3
status_of Input = 4
status_of Output = 4

-- The message that names a line.
abbrev pub bad_step_line : ℕ → List ℕ
bad_step_line line = ended_line (codes "line " ++ decimal line ++ codes ": bad step")

-- The message of each error, on standard error.
abbrev pub error_line : RunError → List ℕ
error_line (BadStep line) = bad_step_line line
error_line Memory = ended_line (codes "no memory")
error_line Input = ended_line (codes "cannot read")
error_line Output = ended_line (codes "cannot write")

-- The error where the input was not read whole.
abbrev pub error_of_input : InputError → RunError
error_of_input UnheardMemory = Memory
error_of_input UnheardInput = Input

-- The error where the text was not read as a script.
abbrev pub error_of_parse : ParseError → RunError
error_of_parse UnreadMemory = Memory
error_of_parse (UnreadStep line) = BadStep line

-- What can end the run of a script: out of memory, and a failed output.
abbrev pub EndsRun : RunError → Type 0
EndsRun (BadStep line) = ⊥
EndsRun Memory = Unit {0}
EndsRun Input = ⊥
EndsRun Output = Unit {0}
