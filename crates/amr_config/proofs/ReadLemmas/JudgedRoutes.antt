-- What is read of the routes, and of a whole configuration, states what is there, and a refusal is that of the first fault.
use Rattle.std.proofs.Common.{arith, ◌≡◌, ℕ, zero, suc, ◌+◌, false, true≢false, List, [], ◌∷◌, ◌++◌, length, Option, Some, None, Ok, refl, sym, ap, subst, ◌∙◌, append_assoc, length-append, codes, unwrap_or, append-nil}
use Rattle.std.specs.Option.{option_map_or}
use Rattle.std.proofs.lemmas.Bool.{or_parts}
use Rattle.serde_json.specs.Data.{Data, Items, no_items, item}
use Rattle.serde_json.specs.Find.{as_array}
use Rattle.amr_labels.specs.Labels.{Text}
use Rattle.amr_time.specs.SpanRead.{span_of}
use Rattle.amr_config.specs.declared.stated.route.Route.{Route}
use Rattle.amr_config.specs.declared.stated.stated.Stated.{Stated}
use Rattle.amr_config.specs.Read.Paths.{under, item_path}
use Rattle.amr_config.specs.Read.Members.{member_of, optional, optional_member, or_faulty, text_at, flag_at, items_at, span_at, texts_at, any_item, list_in}
use Rattle.amr_config.specs.Read.ReadIntervals.{names_at}
use Rattle.amr_config.specs.Read.Readings.{give, next, items_in_turn}
use Rattle.amr_config.specs.Read.RouteParts.{grouping_stated, children_at, is_deeper, is_too_deep}
use Rattle.amr_config.specs.Read.ReadRoutes.{route_at, own_into, add_route, child_into, tree_from, routes_at}
use Rattle.amr_config.specs.Read.Walking.{walked_at}
use Rattle.amr_config.specs.Read.Table.{IsReceiver, IsText, IsFlag, IsDuration, IsListOf, StatesIf, States, HasAt, IsGrouping, IsDefinedName, IsRoute, IsArray, IsTree, Tree, AreTrees, NoMore, OneMore, StatesWhole}
use Rattle.amr_config.specs.Read.Faults.{Finding, Fault, text_found, flag_found, object_found, spelled_found, each_found, items_found, list_found, if_there, at, if_there_or, needed_at, match_found, defined_name_found, route_found, global_found, interval_list_found, findings_of}
use Rattle.amr_config.proofs.ReadLemmas.Judged.{Judged, told, by_findings, judged_ok, judged_fault, judged_then, judged_as, judged_map, judged_stated, judged_text, judged_flag, judged_object}
use Rattle.amr_config.proofs.ReadLemmas.JudgedParts.{judged_texts, judged_span, judged_names, judged_timeout, judged_defined, names_under_read}
use Rattle.amr_config.proofs.ReadLemmas.JudgedReceivers.{read_receiver, judged_receivers}
use Rattle.amr_config.proofs.ReadLemmas.JudgedMatchers.{walk_matchers, walk_rules}

-- ---- what a route states itself

grouped : (o : Option Data) (names : Option (List Text)) → StatesIf (IsListOf IsText) o names → StatesIf IsGrouping o (grouping_stated names)
grouped o names h = grind arith

-- a route added to those before it
abbrev pub AddsRoute : Data → Option ℕ → Data → List Route → List Route → Type 0
AddsRoute whole parent d before after = (route : Route) × (after ≡ before ++ route ∷ []) × (route.parent ≡ parent) × IsRoute whole d route

own_found : Data → List ℕ → Data → List Finding
own_found whole path d =
    object_found path d
    ++ (at (list_found (defined_name_found whole)) path (codes "active_time_intervals") d
    ++ (at flag_found path (codes "continue") d
    ++ (at (list_found text_found) path (codes "group_by") d
    ++ (at (spelled_found span_of) path (codes "group_interval") d
    ++ (at (spelled_found span_of) path (codes "group_wait") d
    ++ (match_found (codes "match") (codes "match_re") (codes "matchers") path d
    ++ (at (list_found (defined_name_found whole)) path (codes "mute_time_intervals") d
    ++ (at text_found path (codes "receiver") d
    ++ at (spelled_found span_of) path (codes "repeat_interval") d))))))))

abbrev IsRouteOf : Data → Option ℕ → Data → Route → Type 0
IsRouteOf whole parent d route = (route.parent ≡ parent) × IsRoute whole d route

walk_stated_names : (whole : Data) (path : List ℕ) (key : Text) (d : Data) → Judged (optional_member (names_at whole) path key d) (at (list_found (defined_name_found whole)) path key d) (States (IsListOf (IsDefinedName whole)) key d)
walk_stated_names whole path key d = judged_stated (names_at whole) (list_found (defined_name_found whole)) (IsListOf (IsDefinedName whole)) path key d (judged_names whole _)

walk_stated_span : (path : List ℕ) (key : Text) (d : Data) → Judged (optional_member span_at path key d) (at (spelled_found span_of) path key d) (States IsDuration key d)
walk_stated_span path key d = judged_stated span_at (spelled_found span_of) IsDuration path key d (judged_span _)

walk_one : (whole : Data) (path : List ℕ) (parent : Option ℕ) (d : Data) → Judged (route_at whole path parent d) (own_found whole path d) (IsRouteOf whole parent d)
unfolding route_at own_found
walk_one whole path parent d =
    judged_then _ _ _ _ _ _ (judged_object path d) (λ members is_object.
    judged_then _ _ _ _ _ _ (walk_stated_names whole path (codes "active_time_intervals") d) (λ active has_active.
    judged_then _ _ _ _ _ _ (judged_stated flag_at flag_found IsFlag path (codes "continue") d (judged_flag _)) (λ continues has_continues.
    judged_then _ _ _ _ _ _ (judged_stated texts_at (list_found text_found) (IsListOf IsText) path (codes "group_by") d (judged_texts _)) (λ group_by has_group_by.
    judged_then _ _ _ _ _ _ (walk_stated_span path (codes "group_interval") d) (λ group_interval has_interval.
    judged_then _ _ _ _ _ _ (walk_stated_span path (codes "group_wait") d) (λ group_wait has_wait.
    judged_then _ _ _ _ _ _ (walk_matchers path (codes "match") (codes "match_re") (codes "matchers") d) (λ matchers has_matchers.
    judged_then _ _ _ _ _ _ (walk_stated_names whole path (codes "mute_time_intervals") d) (λ mute has_mute.
    judged_then _ _ _ _ _ _ (judged_stated text_at text_found IsText path (codes "receiver") d (judged_text _)) (λ receiver has_receiver.
    judged_map _ _ _ _ _ (walk_stated_span path (codes "repeat_interval") d) (λ repeat_interval has_repeat. (
      refl,
      record {
        receiver = has_receiver;
        group_by = grouped (member_of (codes "group_by") d) group_by has_group_by;
        group_wait = has_wait;
        group_interval = has_interval;
        repeat_interval = has_repeat;
        continues = (continues, has_continues, refl);
        matchers = has_matchers;
        active_time_intervals = (active, has_active, refl);
        mute_time_intervals = (mute, has_mute, refl);
      },
    )))))))))))

-- ---- routes below routes

abbrev AddsTree : Data → Option ℕ → Data → List Route → List Route → Type 0
AddsTree whole parent d before after = (tree : List Route) × (after ≡ before ++ tree) × IsTree whole (length before) parent d tree

abbrev AddsTrees : Data → ℕ → Items → List Route → List Route → Type 0
AddsTrees whole parent ds before after = (trees : List Route) × (after ≡ before ++ trees) × AreTrees whole (length before) parent ds trees

adds_tree : (whole : Data) (parent : ℕ) (d : Data) (ds : Items) (before one after : List Route) → AddsTree whole (Some parent) d before one → AddsTrees whole parent ds one after → AddsTrees whole parent (item d ds) before after
adds_tree whole parent d ds before one after (tree, adds, is) (trees, rest, are) =
    let long : length one ≡ length before + length tree = ap length adds ∙ length-append before tree in
    (tree ++ trees, rest ∙ ap (λ l. l ++ trees) adds ∙ append_assoc before tree trees, OneMore (length before) parent d ds tree trees is (subst (λ n. AreTrees whole n parent ds trees) long are))

abbrev JudgesTree : Data → ℕ → Type 0
JudgesTree whole left = (path : List ℕ) (parent : Option ℕ) (d : Data) (routes : List Route) → is_deeper left d ≡ false → Judged (add_route whole left path parent d routes) (route_found whole left path d) (AddsTree whole parent d routes)

walk_trees : (whole : Data) (left : ℕ) (path : List ℕ) (parent i : ℕ) (ds : Items) (routes : List Route) → JudgesTree whole left → any_item (is_deeper left) ds ≡ false → Judged (items_in_turn (child_into whole left path parent) i ds routes) (each_found (route_found whole left) (under path (codes "routes")) i ds) (AddsTrees whole parent ds routes)
walk_trees whole left path parent i no_items routes judges shallow = judged_ok routes _ ([], sym (append-nil routes), NoMore (length routes) parent)
walk_trees whole left path parent i (item d ds) routes judges shallow =
    judged_then (child_into whole left path parent i d routes) (items_in_turn (child_into whole left path parent) (i + 1) ds) (route_found whole left (item_path (under path (codes "routes")) i) d) (each_found (route_found whole left) (under path (codes "routes")) (i + 1) ds) (AddsTree whole (Some parent) d routes) (AddsTrees whole parent (item d ds) routes) (judges (item_path (under path (codes "routes")) i) (Some parent) d routes (or_parts _ _ shallow).0) (λ one adds.
    judged_as (items_in_turn (child_into whole left path parent) (i + 1) ds one) (each_found (route_found whole left) (under path (codes "routes")) (i + 1) ds) (AddsTrees whole parent ds one) (AddsTrees whole parent (item d ds) routes) (walk_trees whole left path parent (i + 1) ds one judges (or_parts (is_deeper left d) _ shallow).1) (λ after rest. adds_tree whole parent d ds routes one after adds rest))

-- the routes of a list that may be absent
abbrev AddsBelow : Data → ℕ → Option Data → List Route → List Route → Type 0
AddsBelow whole parent o before after = (children : Items) × (found : Option Items) × StatesIf IsArray o found × (children ≡ unwrap_or found no_items) × (trees : List Route) × (after ≡ before ++ trees) × AreTrees whole (length before) parent children trees

walk_below : (whole : Data) (left : ℕ) (path : List ℕ) (parent : ℕ) (d : Data) (own : List Route) → JudgesTree whole left → any_item (is_deeper left) (list_in (member_of (codes "routes") d)) ≡ false → Judged (next (children_at path d) (λ children. items_in_turn (child_into whole left path parent) 0 children own)) (at (list_found (route_found whole left)) path (codes "routes") d) (AddsBelow whole parent (member_of (codes "routes") d) own)
unfolding children_at next
walk_below whole left path parent d own judges shallow = go (member_of (codes "routes") d) shallow
  where
    list : (v : Data) (o : Option Items) → as_array v ≡ o → any_item (is_deeper left) (unwrap_or o no_items) ≡ false → Judged (next (next (next (or_faulty (under path (codes "routes")) o) (λ x. give (Some x))) (λ found. give (unwrap_or found no_items))) (λ children. items_in_turn (child_into whole left path parent) 0 children own)) (items_found (route_found whole left) (under path (codes "routes")) o) (AddsBelow whole parent (Some v) own)
    list v None is shallow = judged_fault (under path (codes "routes")) _
    list v (Some ds) is shallow =
        judged_as (items_in_turn (child_into whole left path parent) 0 ds own) (each_found (route_found whole left) (under path (codes "routes")) 0 ds) (AddsTrees whole parent ds own) _ (walk_trees whole left path parent 0 ds own judges shallow) (λ after (trees, adds, are). (ds, Some ds, is, refl, trees, adds, are))

    go : (o : Option Data) → any_item (is_deeper left) (list_in o) ≡ false → Judged (next (next (optional (items_at (under path (codes "routes"))) o) (λ found. give (unwrap_or found no_items))) (λ children. items_in_turn (child_into whole left path parent) 0 children own)) (if_there (list_found (route_found whole left) (under path (codes "routes"))) o) (AddsBelow whole parent o own)
    go None shallow = judged_ok own _ (no_items, None, tt, refl, [], sym (append-nil own), NoMore (length own) parent)
    go (Some v) shallow = list v (as_array v) refl shallow

-- the members of a route, one after another
route_grows : (whole : Data) (parent : Option ℕ) (d : Data) (routes own after : List Route) → AddsRoute whole parent d routes own → AddsBelow whole (length routes) (member_of (codes "routes") d) own after → AddsTree whole parent d routes after
route_grows whole parent d routes own after (route, adds, of, is) (children, found, states, same, trees, rest, are) =
    let long : length own ≡ length routes + 1 = ap length adds ∙ length-append routes (route ∷ []) in
    (route ∷ trees, rest ∙ ap (λ l. l ++ trees) adds ∙ append_assoc routes (route ∷ []) trees, Tree (length routes) parent d route children trees is of (found, states, same) (subst (λ n. AreTrees whole n (length routes) children trees) long are))

walk_route : (whole : Data) (left : ℕ) → JudgesTree whole left
unfolding add_route is_deeper own_found route_found own_into
walk_route whole zero path parent d routes shallow = absurd (true≢false shallow)
walk_route whole (suc left) path parent d routes shallow =
    by_findings _ (own_found whole path d ++ at (list_found (route_found whole left)) path (codes "routes") d) _ _ (simp append_assoc)
    (judged_then (own_into whole path parent d routes) _ (own_found whole path d) (at (list_found (route_found whole left)) path (codes "routes") d) (AddsRoute whole parent d routes) _ (judged_map _ _ _ _ _ (walk_one whole path parent d) (λ route (of, is). (route, refl, of, is))) (λ own adds.
    judged_as _ _ _ _ (walk_below whole left path (length routes) d own (walk_route whole left) shallow) (λ after below. route_grows whole parent d routes own after adds below)))

walk_tree : (whole : Data) (o : Option Data) → option_map_or (is_deeper 32) o false ≡ false → Judged (tree_from whole o) (if_there_or (Fault (codes "route") ∷ []) (route_found whole 32 (codes "route")) o) (λ routes. (v : Data) × (o ≡ Some v) × IsTree whole 0 None v routes)
walk_tree whole None shallow = judged_fault (codes "route") _
walk_tree whole (Some route) shallow =
    judged_as _ _ _ _ (walk_route whole 32 (codes "route") None route [] shallow) (λ routes (tree, same, is). (route, refl, rw same is))

walk_routes : (d : Data) → is_too_deep d ≡ false → Judged (routes_at d) (needed_at (route_found d 32) [] (codes "route") d) (HasAt (IsTree d 0 None) (codes "route") d)
unfolding routes_at is_too_deep
walk_routes d shallow = walk_tree d (member_of (codes "route") d) shallow

-- ---- a whole configuration

pub walked_judged : (d : Data) → is_too_deep d ≡ false → Judged (walked_at d) (findings_of d) (StatesWhole d)
unfolding walked_at findings_of
walked_judged d shallow =
    by_findings _ _ _ _ (append_assoc (object_found [] d) (at global_found [] (codes "global") d) _)
    (judged_then _ _ _ _ _ _ (judged_timeout d) (λ timeout has_timeout.
    judged_then _ _ _ _ _ _ (walk_rules d) (λ rules has_rules.
    judged_then _ _ _ _ _ _ (judged_defined (codes "mute_time_intervals") d []) (λ mute (of_mute, same_mute, has_mute).
    judged_then _ _ _ _ _ _ (judged_receivers IsReceiver read_receiver d) (λ receivers has_receivers.
    judged_then _ _ _ _ _ _ (walk_routes d shallow) (λ routes has_routes.
    by_findings _ _ _ _ (ap (λ names. if_there (λ v. interval_list_found names (codes "time_intervals") (as_array v)) (member_of (codes "time_intervals") d)) (sym (names_under_read (codes "mute_time_intervals") d mute (rw same_mute has_mute))))
    (judged_map _ _ _ _ _ (judged_defined (codes "time_intervals") d mute) (λ named (of_named, same_named, has_named).
    record {
      resolve_timeout = has_timeout;
      rules = has_rules;
      receivers = has_receivers;
      time_intervals = record { mute = mute; named = of_named; of_mute = rw same_mute has_mute; of_named = has_named; all = same_named };
      routes = has_routes;
    }))))))))

pub walked_states : (d : Data) (stated : Stated) → is_too_deep d ≡ false → (walked_at d).value ≡ Ok stated → StatesWhole d stated
walked_states d stated shallow e = told _ _ _ stated e (walked_judged d shallow).tells
