-- The keys of objects.
use Rattle.std.specs.Prelude.{◌≡◌}
use Rattle.std.specs.declared.cmp.Ordering.TheVariants.{Less}
use Rattle.serde_json.specs.Data.{Data, null, boolean, number, string, array, object, Items, no_items, item, Members, no_members, member}
use Rattle.amr_labels.specs.Labels.{Text, text_cmp}

-- the key sorts before each of these
abbrev pub IsBelow : Text → Members → Type 0
IsBelow key no_members = Unit {0}
IsBelow key (member k d ms) = (text_cmp key k ≡ Less) × IsBelow key ms

-- the keys are distinct and in byte order
abbrev pub AreInOrder : Members → Type 0
AreInOrder no_members = Unit {0}
AreInOrder (member key d ms) = IsBelow key ms × AreInOrder ms

-- each object in a value has distinct keys in byte order
abbrev mutual
  pub HasOrderedKeys : Data → Type 0
  HasOrderedKeys null = Unit {0}
  HasOrderedKeys (boolean b) = Unit {0}
  HasOrderedKeys (number n) = Unit {0}
  HasOrderedKeys (string s) = Unit {0}
  HasOrderedKeys (array ds) = HaveOrderedKeys ds
  HasOrderedKeys (object ms) = AreInOrder ms × AllHaveOrderedKeys ms

  pub HaveOrderedKeys : Items → Type 0
  HaveOrderedKeys no_items = Unit {0}
  HaveOrderedKeys (item d ds) = HasOrderedKeys d × HaveOrderedKeys ds

  pub AllHaveOrderedKeys : Members → Type 0
  AllHaveOrderedKeys no_members = Unit {0}
  AllHaveOrderedKeys (member k d ms) = HasOrderedKeys d × AllHaveOrderedKeys ms
