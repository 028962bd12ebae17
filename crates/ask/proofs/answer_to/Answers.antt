-- `ask::answer_to` meets its contract: what is told is what deciding gives. Assumes nothing.
use Prim.Native.Nat.{ℕ, ◌≤◌}
use mathlib.Core.Path.{◌≡◌, ap, ◌∙◌}
use mathlib.Core.List.{List}
use lib.ListN.{length}
use Rattle.std.specs.Prelude.{Result}
use Rattle.scope.specs.declared.Refusal.{Refusal}
use Rattle.scope.specs.declared.Decision.{Decision}
use Rattle.told.specs.Text.{longest, text_of, TextTells}
use Rattle.told.specs.Told.{told_whole}
use Rattle.ask.specs.Asked.{variables, decided_for, asked, Asked}
use Rattle.ask.proofs.answer_to.Goals as goal

same_text : {n m : ℕ} {a b : Result Decision Refusal} {w v : List ℕ} → n ≡ m → a ≡ b → w ≡ v → text_of n a w ≡ text_of m b v
same_text e f g = rw (e, f, g)

is_asked : (bytes : List ℕ) (n : ℕ) (answer : Result Decision Refusal) (word out : List ℕ) (r : ℕ) (l : List ℕ)
    → n ≡ variables bytes → answer ≡ (decided_for bytes).answer → word ≡ (decided_for bytes).word → longest ≤ length out → TextTells n answer word out r l → Asked bytes r l
unfolding asked
is_asked bytes n answer word out r l e f g h t =
    let w = told_whole n answer word out r l t h in
    let s : text_of n answer word ≡ asked bytes = same_text e f g in
    record { ends = w.0 ∙ ap length s; text = w.1 ∙ s; within = w.2 }

pub returns : goal.returns
unfolding decided_for
returns c =
    let d = c.decide-answer.ensures in
    is_asked c.args.question.now _ _ _ c.args.out.now _ _ c.variables.ensures d.answer d.word c.requires c.tell.ensures
