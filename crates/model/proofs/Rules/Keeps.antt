-- What rows that break no rule keep.
use Rattle.std.proofs.Common.{◌≡◌, ℕ, ◌+◌, Some, None, Option, refl, arith}
use Rattle.std.proofs.lemmas.Bool.Decides.{nat_tests}
use Rattle.model.specs.declared.refusal.Refusal.{Refusal}
use Rattle.model.specs.Rules.{or_least, plain_fault, settled_fault, bounded_fault, plain_task, settled_task, bounded_task}
use Rattle.model.specs.Task.{Task, Lawful}
use Rattle.model.specs.Rows.{plain, paired, LawfulPlain, LawfulPaired}
use Rattle.model.specs.Laws.{RulesMean}
use Rattle.model.proofs.Demand.Rows.{plain_lawful, paired_lawful}

pub plain_keeps : (T D C : ℕ) → plain_fault T D C ≡ None → LawfulPlain T D C
plain_keeps T D C e = grind (arith, nat_tests)

pub settled_keeps : (T C1 S C2 D : ℕ) → settled_fault T C1 S C2 D ≡ None → LawfulPaired T S D C1 C2 (C1 + C2)
settled_keeps T C1 S C2 D e = grind (arith, nat_tests)

pub bounded_keeps : (T C1 C2 C S D : ℕ) → bounded_fault T C1 C2 C S D ≡ None → LawfulPaired T S D C1 C2 C
bounded_keeps T C1 C2 C S D e = grind (arith, nat_tests)

either_lawful : (f : Option Refusal) (own least : Task) → (f ≡ None → Lawful own) → Lawful least → Lawful (or_least f own least)
either_lawful None own least h l = h refl
either_lawful (Some e) own least h l = l

pub plain_task_lawful : (T D C : ℕ) → Lawful (plain_task T D C)
unfolding plain_task
plain_task_lawful T D C = either_lawful (plain_fault T D C) _ _ (λ e. plain_lawful T D C (plain_keeps T D C e)) (plain_lawful 1 1 1 (omega arith))

pub settled_task_lawful : (T C1 S C2 D : ℕ) → Lawful (settled_task T C1 S C2 D)
unfolding settled_task
settled_task_lawful T C1 S C2 D = either_lawful (settled_fault T C1 S C2 D) _ _ (λ e. paired_lawful T S D C1 C2 (C1 + C2) (settled_keeps T C1 S C2 D e)) (paired_lawful 3 1 1 1 1 2 (omega arith))

pub bounded_task_lawful : (T C1 C2 C S D : ℕ) → Lawful (bounded_task T C1 C2 C S D)
unfolding bounded_task
bounded_task_lawful T C1 C2 C S D = either_lawful (bounded_fault T C1 C2 C S D) _ _ (λ e. paired_lawful T S D C1 C2 C (bounded_keeps T C1 C2 C S D e)) (paired_lawful 3 1 1 1 1 2 (omega arith))

-- the row's own task where it breaks no rule, else the least
pub plain_is_own : (T D C : ℕ) → plain_fault T D C ≡ None → plain_task T D C ≡ plain T D C
unfolding plain_task
plain_is_own T D C e = rw e

pub plain_is_least : (T D C : ℕ) (r : Refusal) → plain_fault T D C ≡ Some r → plain_task T D C ≡ plain 1 1 1
unfolding plain_task
plain_is_least T D C r e = rw e

pub settled_is_own : (T C1 S C2 D : ℕ) → settled_fault T C1 S C2 D ≡ None → settled_task T C1 S C2 D ≡ paired T S D C1 C2 (C1 + C2)
unfolding settled_task
settled_is_own T C1 S C2 D e = rw e

pub settled_is_least : (T C1 S C2 D : ℕ) (r : Refusal) → settled_fault T C1 S C2 D ≡ Some r → settled_task T C1 S C2 D ≡ paired 3 1 1 1 1 2
unfolding settled_task
settled_is_least T C1 S C2 D r e = rw e

pub bounded_is_own : (T C1 C2 C S D : ℕ) → bounded_fault T C1 C2 C S D ≡ None → bounded_task T C1 C2 C S D ≡ paired T S D C1 C2 C
unfolding bounded_task
bounded_is_own T C1 C2 C S D e = rw e

pub bounded_is_least : (T C1 C2 C S D : ℕ) (r : Refusal) → bounded_fault T C1 C2 C S D ≡ Some r → bounded_task T C1 C2 C S D ≡ paired 3 1 1 1 1 2
unfolding bounded_task
bounded_is_least T C1 C2 C S D r e = rw e

pub rules_mean : RulesMean
rules_mean = record {
  plain_rules = λ T D C. (plain_keeps T D C, λ l. grind (arith, nat_tests));
  plain_lawful = plain_lawful;
  open_rules = λ T C1 S C2. (λ e. grind (arith, nat_tests), λ l. grind (arith, nat_tests));
  settled_rules = λ T C1 S C2 D1. (settled_keeps T C1 S C2 D1, λ l. grind (arith, nat_tests));
  bounded_rules = λ T C1 C2 C S D1. (bounded_keeps T C1 C2 C S D1, λ l. grind (arith, nat_tests));
  paired_lawful = paired_lawful;
}
