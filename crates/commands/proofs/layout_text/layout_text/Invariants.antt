-- The text so far, and the lines of the zones that are left, are the layout's text. For the loop
-- of `layout_text`.
use Rattle.std.proofs.Common.{◌≡◌, ◌++◌, drop, flat_map}
use Rattle.command_spec.specs.Texts.{layout_line, layout_text}
use Rattle.ramoops_layout.specs.Laid.{params_of, zones_of}
use Rattle.commands.proofs.layout_text.layout_text.Given as goal

-- the text so far, and then the lines of the zones that are left
abbrev pub invariant-loop-zone : goal.invariant-loop-zone
invariant-loop-zone l =
    l.text.items ++ flat_map (λ z. layout_line l.uniform z) (drop l.zone-index (zones_of l.layout))
    ≡ layout_text (params_of l.layout) (zones_of l.layout)
