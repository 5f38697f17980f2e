-- The zone of a list whose texts lie elsewhere.
use Rattle.json_forms.specs.declared.zone_list.ListZone.{ListZone}
use Rattle.json_forms.specs.declared.zone_list.ZoneTexts.{ZoneTexts}

-- the zone that the texts tell
abbrev pub told_zone : ZoneTexts → ListZone
told_zone z = record {
  tzid = z.tzid.now;
  etag = z.etag.now;
  stamp = z.stamp;
  publisher = z.publisher.now;
  version = z.version.now;
  aliases = z.aliases.now;
}
