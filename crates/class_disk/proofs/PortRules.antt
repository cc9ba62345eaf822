-- The rules of the layer below, by those of the class driver.
use Rattle.class_disk.proofs.Common.{◌≡◌, true, ap, ◌∙◌, Rules, class_rules, IsPort, below_rules}

pub port_rules : {rules : Rules} → IsPort rules → rules ≡ below_rules (class_rules rules)
port_rules {rules} h =
    ap (λ n. record rules { longest = n }) h.longest
    ∙ ap (λ b. record rules { longest = rules.max_transfer; one_piece = b }) h.one_piece
    ∙ ap (λ n. record rules { longest = rules.max_transfer; one_piece = true; busy_limit = n }) h.first_busy
