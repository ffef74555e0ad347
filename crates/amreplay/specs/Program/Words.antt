-- What the arguments after the program's name ask for.
use Rattle.std.specs.Prelude.{ℕ, List, [], ◌∷◌, Option, Some, None, codes, bytes_eq, if◌then◌else◌}
use Rattle.amreplay.specs.declared.program.words.Form.{Form}
use Rattle.amreplay.specs.declared.program.words.Form.TheVariants.{Check, Run, Session}

-- a task and its paths
pub data Task : Type 0 where
  CheckOf : List ℕ → Task
  RunOf : List ℕ → List ℕ → Task
  SessionOf : List ℕ → List ℕ → Task

abbrev pub task_of : Form → Task
task_of (Check config) = CheckOf config.now
task_of (Run config script) = RunOf config.now script.now
task_of (Session config script) = SessionOf config.now script.now

-- the forms `run CONFIG SCRIPT` and `session CONFIG SCRIPT`
abbrev pub with_files : List ℕ → List ℕ → List ℕ → Option Task
with_files word config script =
    if bytes_eq word (codes "run") then Some (RunOf config script)
    else (if bytes_eq word (codes "session") then Some (SessionOf config script) else None)

-- these two forms, and `check CONFIG`
abbrev pub task_of_words : List (List ℕ) → Option Task
task_of_words [] = None
task_of_words (word ∷ []) = None
task_of_words (word ∷ config ∷ []) = if bytes_eq word (codes "check") then Some (CheckOf config) else None
task_of_words (word ∷ config ∷ script ∷ []) = with_files word config script
task_of_words (word ∷ config ∷ script ∷ other ∷ others) = None
