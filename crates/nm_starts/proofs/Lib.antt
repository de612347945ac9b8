mod NewestPlan
