-- Runs: what is run within a limit is the only run, if it has no more steps.
use Rattle.std.proofs.Common.{[], ◌≡◌, ℕ, zero, suc, List, ◌∷◌, Option, Some, None, length, ◌≤◌, ◌++◌, option_map, refl, sym, ap, ◌∙◌, subst, arith}
use Rattle.amr_engine.specs.Runs as run

module _ {S D : Type 0} (next : S → Option D) (step : D → S → S) where
  abbrev Runs : S → List D → S → Type 0
  Runs = run.Runs next step

  abbrev Begins : S → List D → Type 0
  Begins = run.Begins next step

  abbrev after_step : D → List D × S → List D × S
  after_step = run.after_step next step

  abbrev ran : List D → S → Option (List D × S)
  ran = run.ran next step

  abbrev run_within : ℕ → S → Option (List D × S)
  run_within = run.run_within next step

  -- what holds where nothing is next, where the limit is reached and after one more step holds of what
  -- is run within a limit
  pub run_holds : (P : ℕ → S → Option (List D × S) → Type 0) → ((limit : ℕ) (s : S) → next s ≡ None → P limit s (ran [] s)) → ((s : S) (d : D) → next s ≡ Some d → P 0 s None)
      → ((limit : ℕ) (s : S) (d : D) (o : Option (List D × S)) → next s ≡ Some d → P limit (step d s) o → P (suc limit) s (option_map (after_step d) o)) → (limit : ℕ) (s : S) → P limit s (run_within limit s)
  run_holds P none over more zero s = grind (arith, none 0 s, over s)
  run_holds P none over more (suc limit) s = grind (arith, none (suc limit) s, λ (d : D). more limit s d (run_within limit (step d s)), λ (d : D). run_holds P none over more limit (step d s))

  -- what is run within a limit is a run, of no more steps
  abbrev IsSound : ℕ → S → Option (List D × S) → Type 0
  IsSound limit s o = (ds : List D) (end : S) → o ≡ ran ds end → Runs s ds end × (length ds ≤ limit)

  by_steps : (limit : ℕ) (s : S) (d : D) (o : Option (List D × S)) → next s ≡ Some d → IsSound limit (step d s) o → IsSound (suc limit) s (option_map (after_step d) o)
  by_steps limit s d None is rest ds end e = absurd (cc)
  by_steps limit s d (Some (es, b)) is rest ds end e =
      let r = rest es b refl in
      let parts : ◌≡◌ {A = List D × S} (d ∷ es, b) (ds, end) = cc in
      subst (λ (x : List D × S). Runs s x.0 x.1 × (length x.0 ≤ suc limit)) parts ((is, r.0), omega (arith, r.1))

  at_end : (limit : ℕ) (s : S) → next s ≡ None → IsSound limit s (ran [] s)
  at_end limit s is ds end e = grind arith

  pub run_within-sound : (limit : ℕ) (s : S) (ds : List D) (end : S) → run_within limit s ≡ ran ds end → Runs s ds end × (length ds ≤ limit)
  run_within-sound = run_holds IsSound at_end (λ s d is ds end e. absurd (cc)) by_steps

  -- a run of no more steps is what is run within the limit
  pub run_within-complete : (limit : ℕ) (s : S) (ds : List D) (end : S) → Runs s ds end → length ds ≤ limit → run_within limit s ≡ ran ds end
  run_within-complete zero s [] end r h = grind arith
  run_within-complete (suc limit) s [] end r h = grind arith
  run_within-complete zero s (d ∷ ds) end r h = absurd (omega arith)
  run_within-complete (suc limit) s (d ∷ ds) end r h = let rest = run_within-complete limit (step d s) ds end r.1 (omega arith) in grind (arith, rest)

  -- nothing is run within a limit if one more step is next
  pub run_within-none : (limit : ℕ) (s : S) (ds : List D) → length ds ≡ suc limit → Begins s ds → run_within limit s ≡ None
  run_within-none limit s [] h b = absurd (omega arith)
  run_within-none zero s (d ∷ ds) h b = grind arith
  run_within-none (suc limit) s (d ∷ ds) h b = let rest = run_within-none limit (step d s) ds (omega arith) b.1 in grind (arith, rest)

  no_rest : (d : D) (o : Option (List D × S)) → option_map (after_step d) o ≡ None → o ≡ None
  no_rest d o e = grind arith

  -- nothing is run within a limit only if one more step is next
  pub none-run_within : (limit : ℕ) (s : S) → run_within limit s ≡ None → (ds : List D) × (length ds ≡ suc limit) × Begins s ds
  none-run_within =
      run_holds (λ limit s o. o ≡ None → (ds : List D) × (length ds ≡ suc limit) × Begins s ds) (λ limit s is e. absurd (cc)) (λ s d is e. (d ∷ [], refl, (is, tt)))
      (λ limit s d o is rest e. let r = rest (no_rest d o e) in (d ∷ r.0, ap suc r.1, (is, r.2)))

-- Two ways to say what is next: what the first says is next, the second does too. The first is up
-- to an earlier moment, the second up to a later one.
module _ {S D : Type 0} (next later : S → Option D) (step : D → S → S) (agree : (s : S) (d : D) → next s ≡ Some d → later s ≡ Some d) where
  -- the longer run goes through the end of the shorter one
  pub Runs-split : (s : S) (ds es : List D) (mid end : S) → run.Runs next step s ds mid → run.Runs later step s es end
      → (rest : List D) × (es ≡ ds ++ rest) × run.Runs later step mid rest end
  Runs-split s [] es mid end r q = (es, refl, subst (λ (x : S). run.Runs later step x es end) r.1 q)
  Runs-split s (d ∷ ds) [] mid end r q = absurd (cc (agree s d r.0, q.0))
  Runs-split s (d ∷ ds) (e ∷ es) mid end r q =
      let same : e ≡ d = cc (agree s d r.0, q.0) in
      let more = Runs-split (step d s) ds es mid end r.1 (subst (λ (x : D). run.Runs later step (step x s) es end) same q.1) in
      (more.0, (λ i. same i ∷ more.1 i), more.2)

  -- if the longer run ends, so does a shorter one, in no more steps
  pub Runs-shorter : (s : S) (es : List D) (end : S) → run.Runs later step s es end → (ds : List D) × (mid : S) × (length ds ≤ length es) × run.Runs next step s ds mid
  Runs-shorter s [] end q = ([], s, omega arith, (none_next (next s) refl, refl))
    where
      none_next : (o : Option D) → next s ≡ o → o ≡ None
      none_next o is = grind (arith, agree s, q.0)
  Runs-shorter s (e ∷ es) end q =
      elim (next s) as (λ o. next s ≡ o → (ds : List D) × (mid : S) × (length ds ≤ length (e ∷ es)) × run.Runs next step s ds mid) [
        | None ↦ λ is. ([], s, omega arith, (is, refl))
        | Some d ↦ λ is.
            let same : e ≡ d = cc (agree s d is, q.0) in
            let rest = Runs-shorter (step e s) es end q.1 in
            (e ∷ rest.0, rest.1, omega (arith, rest.2), (is ∙ ap (λ (x : D). Some x) (sym same), rest.3))
      ] refl
