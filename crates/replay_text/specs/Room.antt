-- The part of a reply room, or of a list, that a call left as it was.
use Rattle.std.specs.Prelude.{Bool, List}
use Rattle.std.specs.List.{list_all}

-- every one is still v, by the equality `eq`
abbrev pub is_untouched : {T : Type 0} → (T → T → Bool) → T → List T → Bool
is_untouched eq v l = list_all (λ x. eq x v) l
