-- The keys of a map and the values of a list, beside the members and items that they stand for.
use Rattle.std.proofs.Common.{◌≡◌, ℕ, Bool, Option, Some, List, [], ◌∷◌, map, String, Vec, Global, string_bytes, refl, ap, sym, ◌∙◌}
use Rattle.std.specs.List.{list_all}
use Rattle.std.proofs.lemmas.List.Folds.{list_all-map}
use Rattle.toml.specs.Data.{Data}
use Rattle.toml.specs.declared.value.Value.{Value, Array}
use Rattle.toml.specs.View.{view, items_of, members_view}
use Rattle.toml.proofs.Views.{view-Array}
use Rattle.settings.specs.Settings.{keys_of, list_of, values_of}

abbrev pub names : List (String Global × Value) → List (String Global)
names es = map (λ e. e.0) es

keys_of_view : (es : List (String Global × Value)) → keys_of (members_view es) ≡ map string_bytes (names es)
keys_of_view [] = refl
keys_of_view (e ∷ es) = ap (λ ks. string_bytes e.0 ∷ ks) (keys_of_view es)

-- a test of each key of the map is the test of each key that the members show
pub all_keys : (test : List ℕ → Bool) (es : List (String Global × Value)) → list_all (λ s. test (string_bytes s)) (names es) ≡ list_all test (keys_of (members_view es))
all_keys test es = sym (ap (list_all test) (keys_of_view es) ∙ list_all-map test string_bytes (names es))

-- the values of a list are those of its items
pub list_of_items : (ds : List Data) → list_of (items_of ds) ≡ ds
list_of_items [] = refl
list_of_items (d ∷ ds) = ap (λ rest. d ∷ rest) (list_of_items ds)

-- the values of a list that was found, as a slice of them shows
pub values_of_found : (value : Value) (list : Vec Value Global) (shown : List Value) (found : Option Data) → Some (view value) ≡ found → value ≡ Array list → shown ≡ list.items
    → map view shown ≡ values_of found
values_of_found value list shown found same is_list is_shown = rw (is_shown, ← same, is_list, view-Array) (sym (list_of_items (map view list.items)))
