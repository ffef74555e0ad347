-- The path of a value, as a text.
use Rattle.std.specs.Prelude.{ℕ, List, [], ◌∷◌, ◌++◌, decimal}
use Rattle.amr_config.specs.declared.read.value_path.ValuePath.{ValuePath, Top, Member', Item'}

-- keys are joined by dots
abbrev pub under : List ℕ → List ℕ → List ℕ
under [] key = key
under (c ∷ path) key = (c ∷ path) ++ 46 ∷ key

-- an index in a list is in brackets
abbrev pub item_path : List ℕ → ℕ → List ℕ
item_path path i = path ++ 91 ∷ decimal i ++ 93 ∷ []

abbrev pub path_text : ValuePath → List ℕ
path_text Top = []
path_text (Member' p path key) = under (path_text path) key.now
path_text (Item' p path i) = item_path (path_text path) i
