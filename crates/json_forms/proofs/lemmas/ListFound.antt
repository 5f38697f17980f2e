-- A sound list is what is read of its text.
use Rattle.std.proofs.Common.{◌≡◌, ap, ◌∙◌, Ok, Err}
use Rattle.std.specs.Option.{option_map_or}
use Rattle.json_forms.specs.ListDocument.{list_data, list_document}
use Rattle.json_forms.specs.ListReading.{list_found, list_of, list_read, list_unless}
use Rattle.json_forms.specs.SoundLists.{IsSoundList}
use Rattle.json_forms.specs.declared.list_fault.BadList.TheVariants as bad
use Rattle.json_forms.specs.declared.zone_list.ListDoc.{ListDoc}
use Rattle.json_forms.proofs.ListTaken.{list_taken, no_list_fault}
use Rattle.json_forms.proofs.ListUtf8.{list_utf8}
use Rattle.json_forms.proofs.lemmas.JsonLemmas.{value_read}
use Rattle.json_forms.proofs.lemmas.ListReads.{list_reads}

pub list_back : (list : ListDoc) → IsSoundList list → list_read (list_document list.token list.zones) ≡ Ok list
unfolding list_read list_found
list_back list sound =
    let text = list_document list.token list.zones in
    let tree = list_data list.token list.zones in
    ap (λ o. option_map_or list_found o (Err (bad.BadList 0))) (value_read text tree (list_utf8 list sound) (list_reads list.token list.zones))
    ∙ ap (λ fault. list_unless fault (list_of tree)) (no_list_fault list sound) ∙ ap (λ (l : ListDoc). Ok l) (list_taken list sound)
