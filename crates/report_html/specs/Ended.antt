-- How a log ends that tells of no death
use Rattle.std.specs.Prelude.{ℕ, List, [], ◌∷◌, ◌++◌, codes, Option, Some, None}
use Rattle.zone_spec.specs.declared.Name.{Name}
use Rattle.zone_spec.specs.Records.{Saved}
use Rattle.death_spec.specs.declared.Line.{Line}
use Rattle.death_spec.specs.Lines.{part}
use Rattle.report_spec.specs.Packed.{readable}
use Rattle.report_spec.specs.Ends.{EndTold, end_words}
use Rattle.report_spec.specs.Facts.{uptime_of, machine_ended}
use Rattle.report_html.specs.declared.words.TheConstants.{READ}
use Rattle.report_html.specs.Reads.{read_parts}
use Rattle.report_html.specs.Pieces.{Part, Words, Bytes, Link}
use Rattle.report_html.specs.Facts.{when_parts, up_parts, machine_parts, some_bytes, machine_bytes}

-- in words; neither a dump nor the console may have a line of the kernel's
abbrev pub words_of : Option EndTold → List ℕ
words_of None = codes "no death: no record tells of the kernel"
words_of (Some t) = end_words t

abbrev pub ended_parts : Option EndTold → List Part
ended_parts end = Words (codes "<pre class=\"why\">") ∷ Words (words_of end) ∷ Words (codes "</pre>\n") ∷ []

abbrev pub last_parts : List ℕ → Line → List Part
last_parts text line =
    Words (codes "<tr><th scope=\"row\">Last line</th><td>") ∷ Bytes (part text line.text line.end)
    ∷ Words (codes "</td></tr>\n") ∷ []

-- which record tells: a link, and how it read
abbrev pub told_parts : List Saved → Name → List Part
told_parts zones name =
    Words (codes "<tr><th scope=\"row\">Told by</th><td>") ∷ Link name ∷ Words READ.now ∷ [] ++ read_parts zones name
    ++ Words (codes "</td></tr>\n</table>\n</header>\n<main>\n") ∷ []

-- when, how long the machine had been up, the last line, the machine, and which record of these zones tells
abbrev pub end_facts : List Saved → EndTold → List Part
end_facts zones t =
    when_parts t.teller.time ++ up_parts (uptime_of (readable t.teller) t.ended.line)
    ++ last_parts (readable t.teller) t.ended.line ++ machine_parts (machine_ended t)
    ++ told_parts zones t.teller.name

abbrev pub end_parts : List Saved → Option EndTold → List Part
end_parts zones None = Words (codes "</header>\n<main>\n") ∷ []
end_parts zones (Some t) = end_facts zones t

-- what of it comes from the image
abbrev pub end_bytes : Option EndTold → List (List ℕ)
end_bytes None = []
end_bytes (Some t) =
    some_bytes (uptime_of (readable t.teller) t.ended.line)
    ++ part (readable t.teller) t.ended.line.text t.ended.line.end ∷ [] ++ machine_bytes (machine_ended t)
