-- The fault of a list of bytes that is no zone.
use Rattle.std.specs.Prelude.{ℕ, List, [], ◌∷◌, Option, None}
use Rattle.std.specs.Option.{option_map, option_or}
use Rattle.std.specs.Result.{result_err}
use Rattle.tzif_reader.specs.declared.tzif_fault.TzifFault.{TzifFault}
use Rattle.tzif_reader.specs.declared.tzif_fault.TzifFault.TheVariants as file
use Rattle.posix_footer.specs.declared.footer_fault.FooterFault.{FooterFault}
use Rattle.zone_meaning.specs.declared.zone_fault.ZoneFault.{ZoneFault}
use Rattle.zone_meaning.specs.declared.zone_fault.ZoneFault.TheVariants.{NoMemory, Tzif, Footer}
use Rattle.tzif_reader.specs.Cut.{lists_of}
use Rattle.tzif_reader.specs.Faults.{first_fault}
use Rattle.posix_footer.specs.Grammar.{footer_in}

-- the fault of a zone for that of its file, where want of memory stays what it is
abbrev pub in_file : TzifFault → ZoneFault
in_file file.NoMemory = NoMemory
in_file fault = Tzif fault

-- the fault of a footer's text: an empty text has none
abbrev pub footer_text_fault : List ℕ → Option FooterFault
footer_text_fault [] = None
footer_text_fault (b ∷ bs) = result_err (footer_in (b ∷ bs))

-- the fault of a file, and else that of its footer
unfoldable pub zone_fault : List ℕ → Option ZoneFault
zone_fault bytes =
    option_or (option_map Tzif (first_fault bytes))
    (option_map Footer (footer_text_fault (lists_of bytes).footer))
