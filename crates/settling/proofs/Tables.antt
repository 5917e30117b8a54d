-- What a text that is read gives: rows that make tables.
use Rattle.std.proofs.Common.{◌≡◌, ℕ, ◌≤◌, List, [], ◌∷◌, length, take, drop, Some, None, Ok, Err, Option, sym, refl, ap, ◌∙◌, arith}
use Rattle.std.specs.List.{AllByRecursion}
use Rattle.std.proofs.lemmas.List.{length-append, take_at}
use Rattle.std.proofs.lemmas.Bool.{le-leb}
use Rattle.model.specs.declared.refusal.Refusal.{Refusal}
use Rattle.model.specs.declared.refusal.Refusal.TheVariants.{TooManyRows}
use Rattle.model.specs.Rules.{unless, first_fault, table_fault}
use Rattle.rows.specs.Bare.{plain_breaks, bounded_breaks}
use Rattle.rows.specs.declared.bare.PlainRow.{PlainRow}
use Rattle.rows.specs.declared.bare.OpenRow.{OpenRow}
use Rattle.rows.specs.declared.bare.BoundedRow.{BoundedRow}
use Rattle.frames.specs.declared.fault.Fault.{Fault}
use Rattle.frames.specs.declared.frame.TextRow.{TextRow}
use Rattle.frames.specs.declared.frame.TextRow.TheVariants.{Plain, Open, Bounded}
use Rattle.frames.specs.declared.text.Counts.{Counts}
use Rattle.frames.specs.Laws.{Lawful, Fit, accepted, AcceptedTextsAreWrittenRows}
use Rattle.frames.specs.Texts.{plain_rows, open_rows, bounded_rows, counts_of, Outcome, text_read, answered, filled, places_of, Done}
use Rattle.seeker.proofs.Fits.{none_breaks}
use Rattle.settling.specs.Settled.{fault_text, rows_text, outcome_text, tables, settled_text}

pub plains_keep : (rows : List TextRow) → AllByRecursion Lawful rows → AllByRecursion (λ r. plain_breaks r ≡ None) (plain_rows rows)
plains_keep [] a = tt
plains_keep (Plain r ∷ rows) a = (a.0.1, plains_keep rows a.1)
plains_keep (Open r ∷ rows) a = plains_keep rows a.1
plains_keep (Bounded r ∷ rows) a = plains_keep rows a.1

pub boundeds_keep : (rows : List TextRow) → AllByRecursion Lawful rows → AllByRecursion (λ r. bounded_breaks r ≡ None) (bounded_rows rows)
boundeds_keep [] a = tt
boundeds_keep (Plain r ∷ rows) a = boundeds_keep rows a.1
boundeds_keep (Open r ∷ rows) a = boundeds_keep rows a.1
boundeds_keep (Bounded r ∷ rows) a = (a.0.1, boundeds_keep rows a.1)

makes_table : {R : Type 0} (fault : R → Option Refusal) (rows : List R) → length rows ≤ 32 → AllByRecursion (λ r. fault r ≡ None) rows → table_fault fault rows ≡ None
makes_table fault rows few a = ap (λ b. unless TooManyRows b (first_fault fault rows)) (le-leb (length rows) 32 few) ∙ none_breaks fault rows a

-- the rows that stand in tables after a reading that was accepted
pub record Taken (text : List ℕ) (i j k : ℕ) (p' : List PlainRow) (op' : List OpenRow) (b' : List BoundedRow) : Type 0 where
  pub plain_fits : i ≤ length p'
  pub open_fits : j ≤ length op'
  pub bounded_fits : k ≤ length b'
  pub plain_table : table_fault plain_breaks (take i p') ≡ None
  pub bounded_table : table_fault bounded_breaks (take k b') ≡ None
  pub text_is : rows_text (take i p') (take j op') (take k b') ≡ settled_text text

accepted_when : (o : Outcome) (c : Counts) → Ok c ≡ answered o → (o ≡ accepted o.rows) × (c ≡ counts_of o.rows)
accepted_when o c e = go o.fault refl e
  where
    go : (f : Option Fault) → o.fault ≡ f → Ok c ≡ answered (record { rows = o.rows; fault = f }) → (o ≡ accepted o.rows) × (c ≡ counts_of o.rows)
    go None h k = (ap (λ (f : Option Fault). record { rows = o.rows; fault = f }) h, cc)
    go (Some x) h k = let z : ◌≡◌ {A = ℕ} 0 1 = cc in absurd (omega arith)

refused_when : (o : Outcome) (x : Fault) → Err x ≡ answered o → outcome_text o ≡ fault_text x
refused_when o x e = go o.fault refl e
  where
    go : (f : Option Fault) → o.fault ≡ f → Err x ≡ answered (record { rows = o.rows; fault = f }) → outcome_text (record { rows = o.rows; fault = f }) ≡ fault_text x
    go None h k = let z : ◌≡◌ {A = ℕ} 0 1 = cc in absurd (omega arith)
    go (Some y) h k = let z : y ≡ x = cc in ap fault_text z

same_places : (a b c : ℕ) → a ≡ 32 → b ≡ 32 → c ≡ 32 → ◌≡◌ {A = Counts} (record { plains = a; opens = b; boundeds = c }) tables
same_places a b c p q r = λ i. record { plains = p i; opens = q i; boundeds = r i }

module _ (text : List ℕ) (p : List PlainRow) (op : List OpenRow) (b : List BoundedRow) (p' : List PlainRow) (op' : List OpenRow) (b' : List BoundedRow)
    (hp : length p ≡ 32) (ho : length op ≡ 32) (hb : length b ≡ 32) where
  is_tables : places_of p op b ≡ tables
  is_tables = same_places (length p) (length op) (length b) hp ho hb

  pub refused_text : (x : Fault) → Done (text_read (places_of p op b) text) (Err x) p op b p' op' b' → fault_text x ≡ settled_text text
  refused_text x d = sym (refused_when (text_read (places_of p op b) text) x d.answer) ∙ ap (λ (c : Counts). outcome_text (text_read c text)) is_tables

  module _ (law : AcceptedTextsAreWrittenRows) (c : Counts) (d : Done (text_read (places_of p op b) text) (Ok c) p op b p' op' b') where
    abbrev o : Outcome
    o = text_read (places_of p op b) text

    w : (o ≡ accepted o.rows) × (c ≡ counts_of o.rows)
    w = accepted_when o c d.answer

    facts : AllByRecursion Lawful o.rows × Fit (places_of p op b) o.rows
    facts = let f = (law (places_of p op b) o.rows text).0 w.0 in (f.1, f.2)

    first_rows : {R : Type 0} (rows table after : List R) (n : ℕ) → after ≡ filled rows table → n ≡ length rows → take n after ≡ rows
    first_rows rows table after n e h = ap (take n) e ∙ take_at rows (drop (length rows) table) n (sym h)

    within : {R : Type 0} (rows table after : List R) (n : ℕ) → after ≡ filled rows table → n ≡ length rows → n ≤ length after
    within rows table after n e h = omega (arith, ap length e, length-append rows (drop (length rows) table))

    -- by as many as were counted
    module _ (i j k : ℕ) (ei : i ≡ c.plains) (ej : j ≡ c.opens) (ek : k ≡ c.boundeds) where
      cp : i ≡ length (plain_rows o.rows)
      cp = ei ∙ ap (λ (n : Counts). n.plains) w.1

      co : j ≡ length (open_rows o.rows)
      co = ej ∙ ap (λ (n : Counts). n.opens) w.1

      cb : k ≡ length (bounded_rows o.rows)
      cb = ek ∙ ap (λ (n : Counts). n.boundeds) w.1

      tp : take i p' ≡ plain_rows o.rows
      tp = first_rows (plain_rows o.rows) p p' i d.plain_table cp

      to : take j op' ≡ open_rows o.rows
      to = first_rows (open_rows o.rows) op op' j d.open_table co

      tb : take k b' ≡ bounded_rows o.rows
      tb = first_rows (bounded_rows o.rows) b b' k d.bounded_table cb

      pub taken : Taken text i j k p' op' b'
      taken =
          let f = facts.1 in
          record {
            plain_fits = within (plain_rows o.rows) p p' i d.plain_table cp;
            open_fits = within (open_rows o.rows) op op' j d.open_table co;
            bounded_fits = within (bounded_rows o.rows) b b' k d.bounded_table cb;
            plain_table = ap (table_fault plain_breaks) tp ∙ makes_table plain_breaks (plain_rows o.rows) (omega (arith, f.0)) (plains_keep o.rows facts.0);
            bounded_table = ap (table_fault bounded_breaks) tb ∙ makes_table bounded_breaks (bounded_rows o.rows) (omega (arith, f.2)) (boundeds_keep o.rows facts.0);
            text_is = (λ x. rows_text (tp x) (to x) (tb x)) ∙ sym (ap outcome_text w.0) ∙ ap (λ (n : Counts). outcome_text (text_read n text)) is_tables;
          }
