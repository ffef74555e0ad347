-- The first of several timers.
use Rattle.std.proofs.Common.{if◌then◌else◌, nat_lt, Ordering, Less, Equal, [], ◌≡◌, ◌≤◌, ◌<◌, ◌⊎◌, inl, inr, Bool, true, false, ◌||◌, IsTrue, List, ◌∷◌, Option, Some, None, refl, sym, ap, subst, ◌∙◌, arith}
use Rattle.std.specs.Ordering.{nat_cmp, is_eq, is_gt, eq_by_cmp, ordering_reverse, ordering_then}
use Rattle.std.specs.Cmp.{nat_cmp_is, nat_cmp_total}
use Rattle.amr_labels.specs.Labels.{label_set_cmp}
use Rattle.std.proofs.lemmas.Bool.{true≢false, or_right}
use Rattle.std.proofs.lemmas.Bool.Decides.{nat_tests}
use Rattle.std.proofs.lemmas.Cmp.{upto, tied_itself}
use Rattle.std.proofs.lemmas.Map.Keys.{le_from_not_gt}
use Rattle.std.proofs.lemmas.Map.Views.{tells_apart}
use Rattle.amr_tables.specs.Members.{has}
use Rattle.amr_engine.specs.declared.state.due.Kind.{Kind}
use Rattle.amr_engine.specs.declared.state.due.Kind.TheVariants.{AlertRemoval, GroupRemoval, GroupFlush}
use Rattle.amr_engine.specs.State.Dues.{Due, kind_rank, due_cmp, due_cmp_total, due_cmp-IsAntisymmetric, lesser_due, least_due}
use Rattle.amr_engine.specs.State.Timed.{earlier, IsFirstAmong, IsFirstOfKind}

pub not_after : (a b : Due) → is_gt (due_cmp a b) ≡ true → is_gt (due_cmp b a) ≡ false
not_after a b h = grind (arith, due_cmp_total.antisymm a b)

-- ---- the least of a list

-- all kinds
abbrev Any : Kind → Type 0
Any kind = Unit {0}

pub either : (a b : Bool) (P : Type 0) → (IsTrue a → P) → (IsTrue b → P) → IsTrue (a || b) → P
either a b P f g h = grind arith

pub not_both : (b : Bool) (P : Type 0) → b ≡ false → IsTrue b → P
not_both b P off on = absurd (true≢false (sym on ∙ off))

has_itself : (due : Due) (rest : List Due) → IsTrue (has due_cmp (due ∷ rest) due)
has_itself due rest = ap (λ o. is_eq o || has due_cmp rest due) (tied_itself due_cmp_total due)

not_after_itself : (due : Due) → is_gt (due_cmp due due) ≡ false
not_after_itself due = ap is_gt (tied_itself due_cmp_total due)

-- what holds of a timer and of the rest holds of the list
over : (P : Due → Type 0) (due : Due) (rest : List Due) → P due → ((other : Due) → IsTrue (has due_cmp rest other) → P other) → (other : Due) → IsTrue (has due_cmp (due ∷ rest) other) → P other
over P due rest own others other h =
    either (eq_by_cmp due_cmp other due) (has due_cmp rest other) (P other) (λ e. subst P (sym (tells_apart due_cmp-IsAntisymmetric other due e)) own) (others other) h

least_first : (dues : List Due) → IsFirstAmong Any dues (least_due dues)
least_first [] = λ other _. refl
least_first (due ∷ rest) = by (least_due rest) (least_first rest)
  where
    by : (o : Option Due) → IsFirstAmong Any rest o → IsFirstAmong Any (due ∷ rest) (Some (lesser_due due o))
    by None none = (tt, (has_itself due rest, λ other _ h. over (λ x. is_gt (due_cmp due x) ≡ false) due rest (not_after_itself due) (λ x there. not_both _ _ (none x tt) there) other h))
    by (Some least) known =
        elim (is_gt (due_cmp due least)) as (λ b. is_gt (due_cmp due least) ≡ b → IsFirstAmong Any (due ∷ rest) (Some (if b then least else due))) [
          | true ↦ λ is. (tt, (or_right _ _ known.1.0, λ other _ h. over (λ x. is_gt (due_cmp least x) ≡ false) due rest (not_after due least is) (λ x there. known.1.1 x tt there) other h))
          | false ↦ λ is. (tt, (has_itself due rest, λ other _ h. over (λ x. is_gt (due_cmp due x) ≡ false) due rest (not_after_itself due) (λ x there. upto due_cmp_total due least x is (known.1.1 x tt there)) other h))
        ] refl

neither : (v w : Ordering) → v ≡ ordering_reverse w → is_gt v ≡ false → is_gt w ≡ false → v ≡ Equal
neither v w e a b = grind arith

-- no list has two first timers
one_first : (dues : List Due) (x y : Option Due) → IsFirstAmong Any dues x → IsFirstAmong Any dues y → x ≡ y
one_first dues None None a b = refl
one_first dues None (Some y) a b = not_both _ _ (a y tt) b.1.0
one_first dues (Some x) None a b = not_both _ _ (b x tt) a.1.0
one_first dues (Some x) (Some y) a b =
    ap (λ (d : Due). Some d) (due_cmp-IsAntisymmetric x y (neither (due_cmp x y) (due_cmp y x) (due_cmp_total.antisymm x y) (a.1.1 y tt b.1.0) (b.1.1 x tt a.1.0)))

-- ---- the first of several kinds

first_part : (o p : Ordering) → is_gt (ordering_then o p) ≡ false → is_gt o ≡ false
first_part o p h = grind arith

pub not_later : (a b : Due) → is_gt (due_cmp a b) ≡ false → a.moment ≤ b.moment
not_later a b h = le_from_not_gt a.moment b.moment (first_part (nat_cmp a.moment b.moment) _ h)

pub sooner : (a b : Due) → a.moment < b.moment → is_gt (due_cmp a b) ≡ false
sooner a b lt = grind (arith, nat_cmp_is a.moment b.moment Less lt)

-- of one moment and kind, a lesser name is first
pub alike : (a b : Due) → a.moment ≡ b.moment → a.kind ≡ b.kind → is_gt (ordering_then (nat_cmp a.route b.route) (label_set_cmp a.labels b.labels)) ≡ false → is_gt (due_cmp a b) ≡ false
alike a b moment kind name = grind (arith, tied_itself nat_cmp_total a.moment, tied_itself nat_cmp_total (kind_rank a.kind))

-- of one moment, an earlier kind is first
by_kind : (a b : Due) → a.moment ≤ b.moment → kind_rank a.kind < kind_rank b.kind → is_gt (due_cmp a b) ≡ false
by_kind a b le lt = grind (arith, nat_tests, nat_cmp_is (kind_rank a.kind) (kind_rank b.kind) Less lt, sooner a b, nat_cmp_is a.moment b.moment Equal)

module _ (p q : Kind → Type 0) (before : (j k : Kind) → p j → q k → kind_rank j < kind_rank k) (dues : List Due) where
  joined : (x y : Option Due) → IsFirstAmong p dues x → IsFirstAmong q dues y → IsFirstAmong (λ kind. p kind ⊎ q kind) dues (earlier x y)
  joined None None n m = λ other. elim [ inl e ↦ n other e | inr e ↦ m other e ]
  joined None (Some b) n m = (inr m.0, (m.1.0, λ other. elim [ inl e ↦ λ h. not_both _ _ (n other e) h | inr e ↦ m.1.1 other e ]))
  joined (Some a) None n m = (inl n.0, (n.1.0, λ other. elim [ inl e ↦ n.1.1 other e | inr e ↦ λ h. not_both _ _ (m other e) h ]))
  joined (Some a) (Some b) n m =
      elim (nat_lt b.moment a.moment) as (λ t. nat_lt b.moment a.moment ≡ t → IsFirstAmong (λ kind. p kind ⊎ q kind) dues (if t then Some b else Some a)) [
        | true ↦ λ t.
            let lt : b.moment < a.moment = grind (arith, nat_tests) in
            (inr m.0, (m.1.0, λ other. elim [ inl e ↦ λ h. sooner b other (omega (arith, lt, not_later a other (n.1.1 other e h))) | inr e ↦ m.1.1 other e ]))
        | false ↦ λ t.
            let le : a.moment ≤ b.moment = grind (arith, nat_tests) in
            (inl n.0, (n.1.0, λ other. elim [ inl e ↦ n.1.1 other e | inr e ↦ λ h. by_kind a other (omega (arith, le, not_later b other (m.1.1 other e h))) (before a.kind other.kind n.0 e) ]))
      ] refl

widened : (p : Kind → Type 0) → ((kind : Kind) → p kind) → (dues : List Due) (x : Option Due) → IsFirstAmong p dues x → IsFirstAmong Any dues x
widened p all dues None a = λ other _. a other (all other.kind)
widened p all dues (Some x) a = (tt, (a.1.0, λ other _. a.1.1 other (all other.kind)))

abbrev IsOf : Kind → Kind → Type 0
IsOf kind k = k ≡ kind

kinds : (k : Kind) → IsOf AlertRemoval k ⊎ (IsOf GroupRemoval k ⊎ IsOf GroupFlush k)
kinds k = grind arith

removals_first : (j k : Kind) → IsOf GroupRemoval j → IsOf GroupFlush k → kind_rank j < kind_rank k
removals_first j k e f = grind arith

alerts_first : (j k : Kind) → IsOf AlertRemoval j → IsOf GroupRemoval k ⊎ IsOf GroupFlush k → kind_rank j < kind_rank k
alerts_first j k e f = grind arith

-- the least is the earlier of the first timers of each kind
pub first_of_kinds : (dues : List Due) (x y z : Option Due) → IsFirstOfKind AlertRemoval dues x → IsFirstOfKind GroupRemoval dues y → IsFirstOfKind GroupFlush dues z → least_due dues ≡ earlier x (earlier y z)
first_of_kinds dues x y z a b c =
    one_first dues (least_due dues) (earlier x (earlier y z)) (least_first dues)
    (widened _ kinds dues (earlier x (earlier y z)) (joined (IsOf AlertRemoval) (λ k. IsOf GroupRemoval k ⊎ IsOf GroupFlush k) alerts_first dues x (earlier y z) a (joined (IsOf GroupRemoval) (IsOf GroupFlush) removals_first dues y z b c)))
