use Rattle.std.proofs.Common.{◌≡◌, ℕ, true, ◌+◌, ◌++◌, [], ◌∷◌, length, Ok, Result, refl, sym, ap, ◌∙◌, arith, rules, tests}
use Rattle.std.proofs.iter.Serving.{serving}
use Rattle.std.proofs.lemmas.Fn.{always_returns_same}
use Rattle.std.proofs.lemmas.Result.{err_from_is_err_and}
use Rattle.std.specs.declared.ops.RangeFrom.{RangeFrom}
use Rattle.std.specs.declared.iter.Zip.{Zip}
use Rattle.std.specs.declared.slice.Split.{Split}
use Rattle.std.specs.Iterator.Adapters.{zip_first, zip_second}
use Rattle.std.specs.Slice.Iter.{split_rest, split_done}
use Rattle.frames.specs.Texts.{places_of, go_on, reads, lines, text_test, text_read}
use Rattle.frames.specs.declared.fault.Fault.{Fault}
use Rattle.frames.proofs.Accepted.{accepted_texts}
use Rattle.frames.proofs.Ends.{is_end, left, left_none, left_more, no_lines, lines_parts, lines_short, tested_short, tested_ended, ended_parts}
use Rattle.frames.proofs.Turning.{held_none}
use Rattle.frames.proofs.Lined.{Put, again, stops, ends}
use Rattle.frames.proofs.text.read_text.Goals as goal
use Rattle.frames.proofs.text.read_text.Goals.{After-put, in-Some+in-None, in_default}

taken : (c : After-put) → left (split_done (zip_second c.loop-line.line-iterator)) (split_rest (zip_second c.loop-line.line-iterator)) ≡ c.in-Some-2.digits.now ∷ left (split_done (zip_second c.next.new.self)) (split_rest (zip_second c.next.new.self))
taken c =
    let s = c.in-Some-2.ensures.steps.1 in
    left_more _ _ _ _ _ s.0 s.1 (s.2 is_end (always_returns_same _ (λ a r. r ≡ is_end a.0.now) _ (λ a r q k. (search (rules, tests), search rules)))).1

put : (c : After-put) → Put c.args.plains.now c.args.opens.now c.args.boundeds.now
    c.loop-line.invariant.0 c.loop-line.tables.counts c.loop-line.tables.plains.now c.loop-line.tables.opens.now c.loop-line.tables.boundeds.now c.in-Some-2.line c.in-Some-2.digits.now (left (split_done (zip_second c.next.new.self)) (split_rest (zip_second c.next.new.self)))
    c.in_ok-read_row.field-0 c.put.new.self.plains.now c.put.new.self.opens.now c.put.new.self.boundeds.now
    (text_read (places_of c.args.plains.now c.args.opens.now c.args.boundeds.now) c.args.text.now)
put c =
    let i = c.loop-line.invariant in
    let places = places_of c.args.plains.now c.args.opens.now c.args.boundeds.now in
    record {
      held = i.1;
      number = c.in-Some-2.ensures.steps.0.0 ∙ i.2;
      onward = ap (reads places i.0) (sym (taken c)) ∙ i.4;
      read = sym c.read_row.ensures ∙ c.in_ok-read_row.was;
      plain = c.put.ensures.plains;
      opened = c.put.ensures.opens;
      bounded = c.put.ensures.boundeds;
    }

pub returns-in_err-test_text-clause-law : goal.returns-in_err-test_text-clause-law
returns-in_err-test_text-clause-law c = accepted_texts

pub loop-line-init : goal.loop-line-init
loop-line-init c =
    let text = c.args.text.now in
    let body = c.in-Some.body.now in
    let made = c.into_iter-line-iterator.ensures.into_iter_gives in
    let none : c.default.result ≡ record { plains = 0; opens = 0; boundeds = 0 } = search rules in
    let passed : text_test text ≡ Ok tt = sym c.test_text.ensures ∙ c.in_ok-test_text.was in
    let whole : text ≡ body ++ 10 ∷ [] = ended_parts text body c.in-Some.field-0-0.now (tested_ended text tt passed) (search rules) in
    let second = ap (λ (z : Zip (RangeFrom ℕ) (Split ℕ (Unit {0}))). zip_second z) made ∙ c.zip-line-items.ensures.second in
    let all : left (split_done (zip_second c.into_iter-line-iterator.result)) (split_rest (zip_second c.into_iter-line-iterator.result)) ≡ lines text =
    ap (λ (s : Split ℕ (Unit {0})). left (split_done s) (split_rest s)) second
    ∙ (λ i. left (c.split.ensures.done i) (c.split.ensures.rest i)) ∙ sym (lines_parts body) ∙ ap lines (sym whole) in
    let places = places_of c.args.plains.now c.args.opens.now c.args.boundeds.now in (
      [],
      rw none (held_none c.args.plains.now c.args.opens.now c.args.boundeds.now),
      ap (λ (z : Zip (RangeFrom ℕ) (Split ℕ (Unit {0}))). (zip_first z).start) made ∙ ap (λ (r : RangeFrom ℕ). r.start) c.zip-line-items.ensures.first,
      omega (arith, ap length all, lines_short text, tested_short text tt passed),
      ap (reads places []) all ∙ sym (ap (λ (x : Result (Unit {0}) Fault). go_on [] x (λ _. reads places [] (lines text))) passed),
      refl,
      refl,
      refl,
      (tt, grind serving),
      tt,
    )

pub returns-in_err-read_row-clause-read : goal.returns-in_err-read_row-clause-read
returns-in_err-read_row-clause-read c =
    let s = c.in-Some-2.ensures.steps.1 in
    let t : left (split_done (zip_second c.loop-line.line-iterator)) (split_rest (zip_second c.loop-line.line-iterator)) ≡ c.in-Some-2.digits.now ∷ left (split_done (zip_second c.next.new.self)) (split_rest (zip_second c.next.new.self)) =
    left_more _ _ _ _ _ s.0 s.1 (s.2 is_end (always_returns_same _ (λ a r. r ≡ is_end a.0.now) _ (λ a r q k. (search (rules, tests), search rules)))).1 in
    search rules

pub returns-in_err-read_row-clause-law : goal.returns-in_err-read_row-clause-law
returns-in_err-read_row-clause-law c = accepted_texts

pub loop-line-preserved : goal.loop-line-preserved
loop-line-preserved c =
    let i = c.loop-line.invariant in
    let s = c.in-Some-2.ensures.steps in
    let a = again _ _ _ _ _ _ _ _ _ _ _ _ _ _ _ _ (put (goal.at.loop-line-preserved c).After-put) c.put.new.self.counts c.in_ok-put.ensures.counts in
    (a.0, a.1, s.0.1 ∙ ap (λ (k : ℕ). k + 1) (sym a.2), omega (arith, i.3, ap length (taken (goal.at.loop-line-preserved c).After-put), i.2, s.0.0, a.2), a.3, c.put.ensures.same_plains ∙ i.5, c.put.ensures.same_opens ∙ i.6, c.put.ensures.same_boundeds ∙ i.7, (tt, grind serving), tt)

pub returns-in_err-put-clause-read : goal.returns-in_err-put-clause-read
returns-in_err-put-clause-read c =
    let p = err_from_is_err_and c.from_residual-in_err-put.result c.from_residual-in_err-put.ensures.1 in
    let d = stops _ _ _ _ _ _ _ _ _ _ _ _ _ _ _ _ (put (goal.at.returns-in_err-put-clause-read c).After-put) c.in_err-put.field-0.0 c.in_err-put.ensures.counts in
    let i = c.loop-line.invariant in
    let plains = c.put.ensures.same_plains ∙ i.5 in
    let opens = c.put.ensures.same_opens ∙ i.6 in
    let boundeds = c.put.ensures.same_boundeds ∙ i.7 in
    rw (p.1, p.2) (search rules)

pub returns-in_err-put-clause-law : goal.returns-in_err-put-clause-law
returns-in_err-put-clause-law c = accepted_texts

pub returns-clause-read : goal.returns-clause-read
returns-clause-read c =
    let p = c.args.plains.now in
    let o = c.args.opens.now in
    let b = c.args.boundeds.now in
    let text = c.args.text.now in
    let places = places_of p o b in
    elim c.match-split_last.branch [
      | in-Some+in-None w ↦
          let i = w.loop-line.invariant in
          let s = w.in-None.ensures.steps in
          let done : split_done (zip_second w.loop-line.line-iterator) ≡ true = search rules in
          let d = ends p o b i.0 _ _ _ _ _ i.1 (ap (reads places i.0) (sym (left_none _ _ done)) ∙ i.4) in
          let plains = i.5 in
          let opens = i.6 in
          let boundeds = i.7 in
          let is = w.tables-is in
          search rules
      | in_default w ↦
          let none : c.default.result ≡ record { plains = 0; opens = 0; boundeds = 0 } = search rules in
          let passed : text_test text ≡ Ok tt = sym c.test_text.ensures ∙ c.in_ok-test_text.was in
          let whole : reads places [] [] ≡ text_read places text = ap (reads places []) (no_lines text w.in_default.ensures.cases) ∙ sym (ap (λ (x : Result (Unit {0}) Fault). go_on [] x (λ _. reads places [] (lines text))) passed) in
          let d = ends p o b [] c.default.result p o b _ (rw none (held_none p o b)) whole in
          let is = w.tables-is in
          search rules
    ]

pub returns-clause-law : goal.returns-clause-law
returns-clause-law c = accepted_texts
