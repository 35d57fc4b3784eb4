-- What was asked of a medium is an event.
use Rattle.devices.specs.Events.{Event, appended, synced, cut, got}
use Rattle.trace.specs.declared.asked.Asked.{Asked}
use Rattle.trace.specs.declared.asked.Asked.TheVariants as asked

abbrev pub event : Asked → Event
event (asked.Appended bytes) = appended bytes.now
event asked.Synced = synced
event (asked.Cut length) = cut length
event (asked.Got offset bytes) = got offset bytes.now
