-- The names of the tasks of pairs, slowed loads and tables.
use Rattle.std.proofs.Common.{◌≡◌, ℕ, ◌-◌, ◌<◌, ◌≤◌, List, ◌++◌, map, length, get_or, Some, None, arith}
use Rattle.std.proofs.lemmas.List.{get_or-map}
use Rattle.std.proofs.lemmas.Bool.{lt-ltb, le-ltb}
use Rattle.model.specs.Task.{Task}
use Rattle.model.specs.Asked.{found, count_told, name_told, names_then}
use Rattle.model.specs.Slow.{slowed}
use Rattle.model.proofs.Asked.Places.{found_front, found_back, found_past}
use Rattle.model.proofs.Asked.Rows.{found_row}
use Rattle.model.proofs.Asked.Slow.{found_map}

module _ (ks qs : List Task) (f g : ℕ → ℕ) where
  pub name_front : (i : ℕ) → i < count_told ks → name_told (found (ks ++ qs) i) (names_then ks f g i) ≡ name_told (found ks i) (f i)
  name_front i h = rw (lt-ltb i (length ks) (omega arith), found_front ks qs i h)

  pub name_back : (n i : ℕ) → n ≡ count_told ks → n ≤ i → i < 32 → name_told (found (ks ++ qs) i) (names_then ks f g i) ≡ name_told (found qs (i - n)) (g (i - n))
  name_back n i e h l =
      let same : length ks ≡ n = omega arith in
      rw (same, le-ltb i n h, found_back ks qs n i e h l)

pub name_past : (ks : List Task) (n i : ℕ) → 32 ≤ i → name_told (found ks i) n ≡ None
name_past ks n i h = rw (found_past ks i h)

pub name_slow : (f : ℕ) (ks : List Task) (n i : ℕ) → name_told (found (slowed f ks) i) n ≡ name_told (found ks i) n
name_slow f ks n i = grind (arith, found_map)

pub name_row : {K : Type 0} (task : K → Task) (name : K → ℕ) (rows : List K) (i : ℕ) (x : K) → i < 32 → i < length rows → x ≡ get_or rows i x → Some (name x) ≡ name_told (found (map task rows) i) (get_or (map name rows) i 0)
name_row task name rows i x few h e =
    rw (found_row task rows i x few h e, get_or-map name rows i x 0 h, ← e)
