-- Labels and answers as memory has them.
use Rattle.std.proofs.Common.{◌≡◌, ℕ, Bool, true, false, IsTrue, List, [], ◌∷◌, ◌++◌, map, refl, sym, ap, ◌∙◌, if◌then◌else◌}
use Rattle.std.specs.Prelude.{nat_lt}
use Rattle.io_manager.proofs.Common.{map-append, DeviceLabel, Start, Act, Fault, Return, in_memory, as_label, Label, answer_number, as_answer, shown_label, inserted, answer_in_memory}
use Rattle.machine.specs.declared.Label.TheVariants.{Call, Device, Answer as AnswerLabel, Cancel, Pause, Resume, Remove, Surprise, Removed}
use Rattle.io_manager.specs.declared.Answer.{Answer}

-- where labels keep their bytes
pub whole_label : (keeps : Bool) (label : Label) → IsTrue keeps → in_memory keeps label ≡ label
whole_label keeps (Call number q) is = rw is refl
whole_label keeps (Device (Start piece tag block)) is = refl
whole_label keeps (Device (Act piece bytes)) is = rw is refl
whole_label keeps (Device (Fault piece)) is = refl
whole_label keeps (Device (Return piece class)) is = refl
whole_label keeps (AnswerLabel number status information bytes) is = rw is refl
whole_label keeps (Cancel number) is = refl
whole_label keeps Pause is = refl
whole_label keeps Resume is = refl
whole_label keeps Remove is = refl
whole_label keeps Surprise is = refl
whole_label keeps Removed is = refl

pub whole_labels : (keeps : Bool) (labels : List Label) → IsTrue keeps → map (in_memory keeps) labels ≡ labels
whole_labels keeps [] is = refl
whole_labels keeps (label ∷ labels) is = ap (λ (l : Label). l ∷ map (in_memory keeps) labels) (whole_label keeps label is) ∙ ap (λ (l : List Label). label ∷ l) (whole_labels keeps labels is)

-- numbers stay
pub numbers_shown : (keeps : Bool) (answers : List Answer) → map answer_number (map (answer_in_memory keeps) answers) ≡ map answer_number answers
numbers_shown keeps [] = refl
numbers_shown keeps (answer ∷ answers) = ap (λ (l : List ℕ). answer.number ∷ l) (numbers_shown keeps answers)

-- and so do places
pub inserted_shown : (keeps : Bool) (answer : Answer) (answers : List Answer)
    → inserted (answer_in_memory keeps answer) (map (answer_in_memory keeps) answers) ≡ map (answer_in_memory keeps) (inserted answer answers)
inserted_shown keeps answer [] = refl
inserted_shown keeps answer (first ∷ rest) = by (inserted_shown keeps answer rest) (nat_lt first.number answer.number)
  where
    by : inserted (answer_in_memory keeps answer) (map (answer_in_memory keeps) rest) ≡ map (answer_in_memory keeps) (inserted answer rest)
        → (b : Bool) → (if b then answer_in_memory keeps first ∷ inserted (answer_in_memory keeps answer) (map (answer_in_memory keeps) rest) else answer_in_memory keeps answer ∷ answer_in_memory keeps first ∷ map (answer_in_memory keeps) rest)
        ≡ map (answer_in_memory keeps) (if b then first ∷ inserted answer rest else answer ∷ first ∷ rest)
    by same true = ap (λ (l : List Answer). answer_in_memory keeps first ∷ l) same
    by same false = refl

-- the labels of answers
answers_alone : (keeps : Bool) (answers : List Answer) → map as_answer (map (answer_in_memory keeps) answers) ≡ map (in_memory keeps) (map as_answer answers)
answers_alone keeps [] = refl
answers_alone keeps (answer ∷ answers) = ap (λ (l : List Label). as_answer (answer_in_memory keeps answer) ∷ l) (answers_alone keeps answers)

pub answers_shown : (keeps : Bool) (labels : List Label) (answers : List Answer)
    → map (in_memory keeps) labels ++ map as_answer (map (answer_in_memory keeps) answers) ≡ map (in_memory keeps) (labels ++ map as_answer answers)
answers_shown keeps labels answers = ap (λ (l : List Label). map (in_memory keeps) labels ++ l) (answers_alone keeps answers) ∙ sym (map-append (in_memory keeps) labels (map as_answer answers))

-- the labels of the device
recorded_alone : (keeps : Bool) (recorded : List DeviceLabel) → map (shown_label keeps) recorded ≡ map (in_memory keeps) (map as_label recorded)
recorded_alone keeps [] = refl
recorded_alone keeps (label ∷ labels) = ap (λ (l : List Label). shown_label keeps label ∷ l) (recorded_alone keeps labels)

pub recorded_shown : (keeps : Bool) (labels : List Label) (recorded : List DeviceLabel)
    → map (in_memory keeps) labels ++ map (shown_label keeps) recorded ≡ map (in_memory keeps) (labels ++ map as_label recorded)
recorded_shown keeps labels recorded = ap (λ (l : List Label). map (in_memory keeps) labels ++ l) (recorded_alone keeps recorded) ∙ sym (map-append (in_memory keeps) labels (map as_label recorded))
